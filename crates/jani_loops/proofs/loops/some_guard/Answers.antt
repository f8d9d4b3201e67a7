use Rattle.std.specs.Prelude.{◌+◌, Some, map, drop}
use Rattle.std.specs.Option.{option_map}
use Rattle.std.proofs.Common.{ap, sym, ◌∙◌}
use Rattle.std.proofs.lemmas.List.{at_drop_all}
use Rattle.basics.specs.Lists.{drop_item}
use Rattle.op_trees.specs.Tree.{tree}
use Rattle.jani_meaning.specs.Loops.{or_true}
use Rattle.jani_loops.specs.Looped.{guards, lent_edge}
use Rattle.jani_loops.proofs.Made.{all_joined, joined_guard, joined_with, one_joined}
use Rattle.jani_loops.proofs.loops.some_guard.Goals as goal

pub loop-e-preserved : goal.loop-e-preserved
loop-e-preserved c =
    let e = c.e-item.result in
    let g = or_true (lent_edge e).guard in
    let before = option_map tree c.loop-e.all in
    let rest = guards (map lent_edge (drop (c.loop-e.e-index + 1) c.args.edges.now)) in
    ap (λ t. joined_with (Some t) rest) (joined_guard tree c.guard_of.result before (tree c.in_ok-next.next) g c.guard_of.ensures c.in_ok-next.ensures)
    ∙ one_joined before g rest
    ∙ ap (λ es. joined_with before (guards (map lent_edge es))) (sym (drop_item c.args.edges.now c.loop-e.e-index e c.loop-e-test.true c.e-item.is))
    ∙ c.loop-e.invariant

pub returns : goal.returns
returns c =
    let before = option_map tree c.loop-e.all in
    sym (all_joined before)
    ∙ sym (at_drop_all (λ es. joined_with before (guards (map lent_edge es))) c.args.edges.now c.loop-e.e-index c.loop-e-test.false)
    ∙ c.loop-e.invariant
