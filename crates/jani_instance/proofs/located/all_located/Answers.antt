use Rattle.std.proofs.Common.{◌≡◌, ◌+◌, ◌-◌, length, map, ap, subst}
use Rattle.std.specs.List.{range_with_len}
use Rattle.std.specs.Result.{IfOk}
use Rattle.basics.specs.Lists.{map_agree}
use Rattle.gathering.specs.Lists.{list_for}
use Rattle.jani_tree.specs.Syntax as syntax
use Rattle.jani_instance.specs.Actions.{lent_edge, located_among, located_at}
use Rattle.jani_instance.specs.Shapes.{located_of}
use Rattle.jani_instance.specs.Parts.{automaton_at}
use Rattle.jani_instance.proofs.located.all_located.Goals as goal

pub returns : goal.returns
returns c =
    let s = c.args.site in
    let es = map syntax.edge_of c.args.these.now in
    let numbers = range_with_len 0 (length (automaton_at s.part).locations - 1 + 1) in
    subst (λ z. IfOk c.each_located.result (λ ls. map located_of ls.items ≡ z))
    (map_agree (λ n. located_among s (map lent_edge (list_for c.in_ok-starting.starting n))) (located_at s es) (λ n. ap (located_among s) (c.in_ok-starting.ensures n)) numbers)
    c.each_located.ensures
