use Rattle.std.proofs.Common.{◌≡◌, map, take}
use Rattle.carry_maps.specs.Maps.{jani_label}
use Rattle.path_carry.proofs.labels.jani_labels.Given as goal

abbrev pub invariant-loop-label : goal.invariant-loop-label
invariant-loop-label l = l.labels ≡ map (jani_label l.index.pairs.now) (take l.label-index l.from)
