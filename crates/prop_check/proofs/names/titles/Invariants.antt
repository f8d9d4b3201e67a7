use Rattle.std.specs.Prelude.{◌≡◌, ◌++◌, map, drop}
use Rattle.name_rules.specs.Names.{named_by}
use Rattle.prop_grammar.specs.Syntax.{written_of}
use Rattle.prop_trees.specs.PrismFaults.{titles}
use Rattle.prop_check.proofs.names.titles.Given as goal

abbrev pub invariant-loop-p : goal.invariant-loop-p
invariant-loop-p l = map named_by l.list.items ++ titles (map written_of (drop l.p-index l.all)) ≡ titles (map written_of l.all)
