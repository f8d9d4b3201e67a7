use Rattle.std.specs.Prelude.{◌≡◌, ◌++◌, map, drop}
use Rattle.prop_grammar.specs.Syntax.{written_of}
use Rattle.prop_trees.specs.PrismFaults.{filed}
use Rattle.prop_trees.specs.Syntax.{property_of}
use Rattle.prop_check.proofs.filing.filed_properties.Given as goal

abbrev pub invariant-loop-p : goal.invariant-loop-p
invariant-loop-p l =
    map property_of l.list ++ map (filed l.scope.file) (map written_of (drop l.p-index l.all)) ≡ map (filed l.scope.file) (map written_of l.all)
