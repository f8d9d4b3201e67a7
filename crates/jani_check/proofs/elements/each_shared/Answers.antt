use Rattle.std.specs.Prelude.{[], map}
use Rattle.std.proofs.Common.{◌∙◌, ap, ap₂, refl}
use Rattle.std.proofs.Math.Path.{fun_ext}
use Rattle.gathering.proofs.Loops.{none_left}
use Rattle.jani_tree.specs.Syntax.{element_of, file_of}
use Rattle.jani_check.proofs.Parts.{by_names}
use Rattle.jani_check.specs.NameLists.{names_under}
use Rattle.jani_check.specs.Participants.{element_shared}
use Rattle.jani_check.specs.TypeFaults.{shared_by, with_automaton}
use Rattle.jani_check.proofs.Taking.{one_element}
use Rattle.jani_check.proofs.elements.each_shared.Goals as goal

pub loop-e-preserved : goal.loop-e-preserved
loop-e-preserved c =
    let f = file_of c.args.file.now in
    one_element names_under (λ e. element_shared f e.name) c.loop-e.list.items _ _ c.as_slice-e-items.result.now c.loop-e.e-index c.e-item.result _ c.loop-e-test.true c.e-item.is
    c.in_ok-push.ensures.items
    (λ y. c.in_ok-shared.ensures y
    ∙ ap₂ (λ k o. with_automaton (λ a. shared_by k a y) [] o) (fun_ext c.requires.things)
    (c.requires.automata c.e-item.result.name.name))
    c.loop-e.invariant

pub returns : goal.returns
returns c =
    none_left (λ xs. map (λ e. element_shared (file_of c.args.file.now) e.name) xs) _ (map names_under c.loop-e.list.items) c.as_slice-e-items.result.now c.loop-e.e-index refl c.loop-e-test.false c.loop-e.invariant
    ∙ ap (map (λ e. element_shared (file_of c.args.file.now) e.name)) c.as_slice-e-items.ensures
    ∙ by_names element_of (element_shared (file_of c.args.file.now)) (λ e. e.name) (λ e. e.name) (λ e. refl) c.args.file.now.elements
