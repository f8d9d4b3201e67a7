use Rattle.std.specs.Prelude.{List, map}
use Rattle.std.specs.List.{list_any}
use Rattle.std.proofs.Common.{◌∙◌, ap, sym}
use Rattle.jani_tree.specs.declared.syntax.JaniElement.{JaniElement}
use Rattle.jani_tree.specs.Syntax.{automaton_of, element_of, file_of}
use Rattle.jani_check.specs.Participants.{automaton_in}
use Rattle.jani_loops.specs.Looped.{accepts, element_under}
use Rattle.jani_loops.proofs.Made.{none_accepts, same_elements}
use Rattle.jani_loops.proofs.elements.looped.Goals as goal

pub returns-then-not-some_accepts : goal.returns-then-not-some_accepts
returns-then-not-some_accepts c =
    none_accepts c.args.file.now.elements
    (sym (ap (list_any (λ (e : JaniElement). accepts (element_of e))) c.as_slice.ensures) ∙ sym c.some_accepts.ensures ∙ c.if-not-some_accepts.true)

pub returns : goal.returns
returns c =
    let file = file_of c.args.file.now in
    let t = c.in_ok-automata.automata in
    c.in_ok-each_looped.ensures
    ∙ ap (λ (es : List JaniElement). map (element_under t) (map element_of es)) c.as_slice-4.ensures
    ∙ same_elements file t (λ x. c.in_ok-automata.ensures x ∙ ap (λ l. automaton_in (map automaton_of l) x) c.as_slice-2.ensures) file.elements
