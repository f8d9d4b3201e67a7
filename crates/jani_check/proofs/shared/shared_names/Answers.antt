use Rattle.std.specs.Prelude.{map}
use Rattle.std.specs.List.{flat_map}
use Rattle.std.proofs.Common.{refl, ◌∙◌, ap}
use Rattle.jani_tree.specs.Syntax.{edge_of}
use Rattle.jani_check.specs.NameLists.{names_under}
use Rattle.jani_check.specs.Scopes.{thing_under}
use Rattle.jani_check.specs.Things.{is_lasting}
use Rattle.jani_check.specs.TypeFaults.{edge_shared}
use Rattle.gathering.proofs.Loops.{flat_left, none_left}
use Rattle.jani_check.proofs.Parts.{from_none}
use Rattle.jani_check.proofs.shared.shared_names.Goals as goal

pub loop-e-init : goal.loop-e-init
loop-e-init c = λ x. from_none _ _ (ap (map (λ s. s.now)) (c.new-lists.ensures x))

pub loop-e-preserved : goal.loop-e-preserved
loop-e-preserved c = λ x.
    flat_left (λ e. edge_shared (λ y. is_lasting (thing_under c.args.global.now y)) e x) edge_of _ (names_under c.loop-e.lists x) (names_under c.add_edge.new.lists x)
    c.as_slice-e-items.result.now c.loop-e.e-index c.e-item.result c.loop-e-test.true c.e-item.is (c.loop-e.invariant x) (c.in_ok-add_edge.ensures x)

pub returns : goal.returns
returns c = λ x.
    none_left (λ l. flat_map (λ e. edge_shared (λ y. is_lasting (thing_under c.args.global.now y)) e x) (map edge_of l)) _ (names_under c.loop-e.lists x)
    c.as_slice-e-items.result.now c.loop-e.e-index refl c.loop-e-test.false (c.loop-e.invariant x)
    ∙ ap (λ es. flat_map (λ e. edge_shared (λ y. is_lasting (thing_under c.args.global.now y)) e x) (map edge_of es)) c.as_slice-e-items.ensures
