use Rattle.std.specs.Prelude.{◌++◌, ℕ, List, map, take}
use Rattle.std.specs.List.{flat_map}
use Rattle.prism_tree.specs.Syntax.{command_of}
use Rattle.prism_check.specs.Counted.{renamed_action, HasEach}
use Rattle.prism_check.specs.Tables.{new_name}
use Rattle.prism_check.proofs.actions.add_renamed.Given as goal

abbrev pub invariant-loop-command : goal.invariant-loop-command
invariant-loop-command l =
    (ns : List (List ℕ)) → HasEach l.initial.actions ns → HasEach l.actions (ns ++ flat_map (renamed_action (new_name l.renaming)) (map command_of (take l.command-index l.commands)))
