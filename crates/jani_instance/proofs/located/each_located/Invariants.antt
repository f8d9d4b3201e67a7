use Rattle.std.proofs.Common.{◌≡◌, map}
use Rattle.std.specs.List.{range_with_len}
use Rattle.gathering.specs.Lists.{list_for}
use Rattle.jani_instance.specs.Actions.{lent_edge, located_among}
use Rattle.jani_instance.specs.Shapes.{located_of}
use Rattle.jani_instance.proofs.located.each_located.Given as goal

abbrev pub invariant-loop-n : goal.invariant-loop-n
invariant-loop-n l = map located_of l.all.items ≡ map (λ n. located_among l.site (map lent_edge (list_for l.starting n))) (range_with_len 0 l.n)
