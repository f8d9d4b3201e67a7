use Rattle.std.proofs.Common.{◌≡◌, map, take}
use Rattle.prism_tree.specs.Syntax.{label_of}
use Rattle.prop_to_jani.proofs.tables.label_map.Given as goal

abbrev pub invariant-loop-l : goal.invariant-loop-l
invariant-loop-l l = map (λ x. x.now) l.olds.items ≡ map (λ l. l.name.name) (map label_of (take l.l-index l.labels))
