use Rattle.std.specs.Prelude.{◌≡◌, map, drop}
use Rattle.std.specs.List.{flat_map}
use Rattle.name_rules.specs.Least.{soonest}
use Rattle.prop_grammar.specs.Syntax.{written_of}
use Rattle.prop_trees.specs.PrismFaults.{structures, unknown_structure}
use Rattle.prop_check.proofs.names.judge_structures.Given as goal

abbrev pub invariant-loop-p : goal.invariant-loop-p
invariant-loop-p l =
    soonest l.best (flat_map (unknown_structure l.scope.file) (structures (map written_of (drop l.p-index l.all))))
    ≡ soonest l.fn.before (flat_map (unknown_structure l.scope.file) (structures (map written_of l.all)))
