use Rattle.std.proofs.Common.{◌≡◌, ◌∙◌, sym, ap, subst, List, map, length, is_some, true}
use Rattle.std.specs.Prelude.{IfOk, slice_index_or, ◌<◌}
use Rattle.std.specs.Borrow.{Bor}
use Rattle.std.specs.List.{find}
use Rattle.basics.specs.Options.{is_some-map}
use Rattle.jani_tree.specs.declared.syntax.JaniAutomaton.{JaniAutomaton}
use Rattle.jani_tree.specs.declared.syntax.JaniElement.{JaniElement}
use Rattle.jani_tree.specs.Syntax.{Automaton, automaton_of, element_of, file_of}
use Rattle.op_trees.specs.Names.{is_called}
use Rattle.jani_check.specs.Participants.{automaton_in}
use Rattle.name_rules.specs.Names.{under}
use Rattle.jani_loops.specs.Elements.{element_view}
use Rattle.jani_loops.specs.Looped.{element_under}
use Rattle.jani_loops.proofs.Made.{same_elements}
use Rattle.name_table.proofs.JaniGathering.{element_there}
use Rattle.name_table.proofs.jani_parts.element_automata.Goals as goal

pub elements_in-requires : goal.elements_in-requires
elements_in-requires c = λ k d h.
    let t = c.in_ok-automata.automata in
    let F : List JaniElement → Type 0 = λ es. k < length es → is_some (under t (slice_index_or es k d).name.name) ≡ true in
    let there : F c.args.file.now.elements = λ l.
    let x = (slice_index_or c.args.file.now.elements k d).name.name in
    sym (is_some-map (λ (a : Bor JaniAutomaton). automaton_of a.now) (under t x))
    ∙ ap is_some (c.in_ok-automata.ensures x ∙ ap (λ (list : List JaniAutomaton). find (λ (a : Automaton). is_called x a.name) (map automaton_of list)) c.as_slice.ensures)
    ∙ element_there c.args.file.now c.requires k d l in
    subst F (sym c.as_slice-2.ensures) there h

pub returns : goal.returns
returns c =
    let file = file_of c.args.file.now in
    let t = c.in_ok-automata.automata in
    let G : List Automaton → Type 0 = λ l. IfOk c.elements_in.result (λ xs. map element_view xs.items ≡ l) in
    subst G
    (ap (λ (es : List JaniElement). map (element_under t) (map element_of es)) c.as_slice-2.ensures
    ∙ same_elements file t (λ x. c.in_ok-automata.ensures x ∙ ap (λ l. automaton_in (map automaton_of l) x) c.as_slice.ensures) file.elements) c.elements_in.ensures
