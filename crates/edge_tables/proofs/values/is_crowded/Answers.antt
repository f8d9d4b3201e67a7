use Rattle.std.specs.Prelude.{List, map}
use Rattle.std.specs.List.{list_any}
use Rattle.std.proofs.Common.{◌∙◌, ap, sym}
use Rattle.jani_tree.specs.declared.syntax.JaniWrite.{JaniWrite}
use Rattle.jani_tree.specs.Syntax.{Location, location_of, write_of}
use Rattle.jani_loops.specs.Elements.{element_view}
use Rattle.edge_tables.specs.Counts.{is_crowded}
use Rattle.edge_tables.specs.Code.{usable_in}
use Rattle.gathering.proofs.Loops.{any_left, any_here}
use Rattle.edge_tables.proofs.values.is_crowded.Goals as goal

pub loop-l-preserved : goal.loop-l-preserved
loop-l-preserved c =
    let test = is_crowded (usable_in c.args.labels.now c.args.element) (element_view c.args.a.now) in
    any_left (λ (m : Location). list_any test m.values) location_of c.locations-l-items.result.now c.loop-l.l-index c.l-item.result _ c.loop-l-test.true c.l-item.is
    (ap (λ (ws : List JaniWrite). list_any test (map write_of ws)) (sym c.as_slice.ensures) ∙ sym (c.has_crowded.ensures (element_view c.args.a.now) c.in_ok-counts.ensures) ∙ c.if-has_crowded.false)
    c.loop-l.invariant

pub returns-then-has_crowded : goal.returns-then-has_crowded
returns-then-has_crowded c =
    let test = is_crowded (usable_in c.args.labels.now c.args.element) (element_view c.args.a.now) in
    sym
    (ap (list_any (λ (m : Location). list_any test m.values)) (sym c.locations-l-items.ensures)
    ∙ any_here (λ (m : Location). list_any test m.values) location_of c.locations-l-items.result.now c.loop-l.l-index c.l-item.result _ c.loop-l-test.true c.l-item.is
    (ap (λ (ws : List JaniWrite). list_any test (map write_of ws)) (sym c.as_slice.ensures) ∙ sym (c.has_crowded.ensures (element_view c.args.a.now) c.in_ok-counts.ensures) ∙ c.if-has_crowded.true)
    c.loop-l.invariant)
