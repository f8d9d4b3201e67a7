use Rattle.std.specs.Prelude.{◌≡◌, Bool, IfOk, List, map}
use Rattle.std.specs.List.{list_any}
use Rattle.std.proofs.Common.{◌∙◌, ap, subst, sym}
use Rattle.jani_tree.specs.declared.syntax.JaniElement.{JaniElement}
use Rattle.jani_tree.specs.Syntax.{automaton_of, element_of, file_of}
use Rattle.jani_check.specs.Participants.{automaton_in}
use Rattle.prism_targets.specs.Crowds.{crowded_by}
use Rattle.prism_targets.proofs.Crowded.{long_guard_is}
use Rattle.prism_targets.proofs.crowds.has_long_guard.Goals as goal

pub returns : goal.returns
returns c =
    let file = file_of c.args.file.now in
    let t = c.in_ok-automata.automata in
    subst (λ (y : Bool). IfOk c.some_crowded.result (λ b. b ≡ y))
    (ap (λ (es : List JaniElement). list_any (crowded_by t) (map element_of es)) c.as_slice-2.ensures
    ∙ sym (long_guard_is file c.requires t (λ x. c.in_ok-automata.ensures x ∙ ap (λ l. automaton_in (map automaton_of l) x) c.as_slice.ensures))) c.some_crowded.ensures
