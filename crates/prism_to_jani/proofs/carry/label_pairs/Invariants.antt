use Rattle.std.proofs.Common.{◌≡◌, map, take}
use Rattle.jani_automata.specs.Code.{names_in}
use Rattle.prism_to_jani.specs.Maps.{pair_by}
use Rattle.prism_to_jani.proofs.carry.label_pairs.Given as goal

abbrev pub invariant-loop-a : goal.invariant-loop-a
invariant-loop-a l = l.all ≡ map (pair_by (names_in l.names).action) (map (λ x. x.now) (take l.a-index l.acts))
