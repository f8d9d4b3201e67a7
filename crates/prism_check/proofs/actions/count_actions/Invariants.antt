use Rattle.std.specs.Prelude.{map, take}
use Rattle.std.specs.List.{flat_map}
use Rattle.prism_tree.specs.Syntax.{module_of}
use Rattle.prism_check.specs.Counted.{actions_by, HasEach}
use Rattle.prism_check.specs.Tables.{module_under}
use Rattle.prism_check.proofs.actions.count_actions.Given as goal

abbrev pub invariant-loop-entry : goal.invariant-loop-entry
invariant-loop-entry l = HasEach l.actions (flat_map (actions_by (module_under l.modules)) (map module_of (take l.entry-index l.all)))
