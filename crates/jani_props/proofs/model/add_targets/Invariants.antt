use Rattle.std.proofs.Common.{◌≡◌, ◌++◌, take, map}
use Rattle.jani_tree.specs.Syntax.{write_of}
use Rattle.name_rules.specs.Names.{named_by}
use Rattle.jani_props.proofs.model.add_targets.Given as goal

abbrev pub invariant-loop-w : goal.invariant-loop-w
invariant-loop-w l = map named_by l.list.items ≡ map named_by l.initial.list.items ++ map (λ w. w.target) (map write_of (take l.w-index l.writes))
