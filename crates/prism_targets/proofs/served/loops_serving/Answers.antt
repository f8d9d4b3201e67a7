use Rattle.std.specs.Prelude.{ℕ, Vec}
use Rattle.std.specs.Global.{Global}
use Rattle.std.specs.List.{flat_map}
use Rattle.std.proofs.Common.{◌∙◌, ap, map, List, take_all}
use Rattle.std.specs.Borrow.{Bor}
use Rattle.bridge_io.specs.declared.reason.Named.{Named}
use Rattle.gathering.specs.Lists.{list_under}
use Rattle.gathering.proofs.Loops.{map_more}
use Rattle.prism_targets.specs.declared.rows.VectorRow.{VectorRow}
use Rattle.prism_targets.specs.Code.{loop_numbers, loop_serves, row_view}
use Rattle.prism_targets.proofs.Looping.{any_edge}
use Rattle.prism_targets.proofs.served.loops_serving.Goals as goal

pub loop-x-preserved : goal.loop-x-preserved
loop-x-preserved c = λ rows h.
    let x = c.x-item.result in
    map_more (λ (ns : Vec ℕ Global). ns.items) (λ (x : Named). loop_serves rows c.args.element x.name) c.args.actions.now c.loop-x.x-index x c.loop-x.all.items c.push.new.self.items
    c.in_ok-served.field-0 c.loop-x-test.true c.x-item.is (c.loop-x.invariant rows h) c.in_ok-push.ensures.items
    (c.in_ok-served.ensures any_edge
    ∙ ap (λ (rs : List (Bor VectorRow)). flat_map (loop_numbers c.args.element) (map (λ r. row_view r.now) rs)) (c.get.ensures ∙ ap (list_under c.args.naming.now) c.as_str.ensures)
    ∙ ap (flat_map (loop_numbers c.args.element)) (h x.name))

pub returns : goal.returns
returns c = λ rows h.
    c.loop-x.invariant rows h
    ∙ ap (λ (xs : List Named). map (λ x. loop_serves rows c.args.element x.name) xs) (take_all c.loop-x.x-index c.args.actions.now c.loop-x-test.false)
