use Rattle.jani_tree.specs.Syntax.{file_of}
use Rattle.name_rules.specs.Names.{under}
use Rattle.jani_instance.specs.Constants.{AreWithin}
use Rattle.jani_instance.proofs.constants.ordered_table.Given as goal

abbrev pub invariant-loop-k : goal.invariant-loop-k
invariant-loop-k l = AreWithin (file_of l.file) (under l.given) l.k l.table.items
