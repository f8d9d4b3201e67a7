use Rattle.std.specs.Prelude.{◌≡◌, ◌++◌, map, drop}
use Rattle.prop_grammar.specs.Syntax.{written_of}
use Rattle.prop_trees.specs.PrismFaults.{all_parts}
use Rattle.prop_check.specs.Views.{part_of}
use Rattle.prop_check.proofs.parts.parts_of.Given as goal

abbrev pub invariant-loop-p : goal.invariant-loop-p
invariant-loop-p l =
    map part_of l.list.items ++ all_parts (map written_of (drop l.p-index l.all)) ≡ all_parts (map written_of l.all)
