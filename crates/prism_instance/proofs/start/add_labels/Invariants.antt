use Rattle.std.proofs.Common.{◌≡◌, ◌++◌, map, take}
use Rattle.prism_tree.specs.Syntax.{label_of}
use Rattle.prism_instance.proofs.start.add_labels.Given as goal

abbrev pub invariant-loop-label : goal.invariant-loop-label
invariant-loop-label l = map (λ n. n.now) l.names.items ≡ map (λ n. n.now) l.initial.names.items ++ map (λ k. k.name.name) (map label_of (take l.label-index l.labels))
