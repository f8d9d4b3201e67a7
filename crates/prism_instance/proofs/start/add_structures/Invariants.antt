use Rattle.std.proofs.Common.{◌≡◌, ◌++◌, map, take}
use Rattle.prism_tree.specs.Syntax.{rewards_of}
use Rattle.prism_instance.specs.Described.{structure_name}
use Rattle.prism_instance.proofs.start.add_structures.Given as goal

abbrev pub invariant-loop-structure : goal.invariant-loop-structure
invariant-loop-structure l = map (λ n. n.now) l.names.items ≡ map (λ n. n.now) l.initial.names.items ++ map (λ r. structure_name r.name) (map rewards_of (take l.structure-index l.rewards))
