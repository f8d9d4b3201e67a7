use Rattle.std.specs.Prelude.{◌≡◌, length, take}
use Rattle.std.specs.List.{sum_by}
use Rattle.op_trees.specs.Tree.{capped}
use Rattle.prism_tree.specs.Syntax.{module_of}
use Rattle.prism_check.specs.Counted.{commands_by}
use Rattle.prism_check.specs.Tables.{module_under}
use Rattle.prism_check.proofs.actions.count_commands.Given as goal

abbrev pub invariant-loop-entry : goal.invariant-loop-entry
invariant-loop-entry l =
    l.count ≡ capped (sum_by (λ m. length (commands_by (module_under l.modules) (module_of m))) (take l.entry-index l.all))
