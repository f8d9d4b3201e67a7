-- The new names of a translation with those of the actions that it makes (this project's own rule): a file asks for all its
-- names, and then for that of each target, which has its own class and space.
use Rattle.std.specs.Prelude.{List, ◌++◌, map}
use Rattle.jani_tree.specs.Syntax.{File}
use Rattle.name_table.specs.declared.class.NameClass.TheVariants.{Action}
use Rattle.name_table.specs.declared.class.Target.TheVariants.{Prism}
use Rattle.name_table.specs.declared.entry.Entry.{Entry}
use Rattle.name_table.specs.Entries.{Ask, entries_of}
use Rattle.name_table.specs.PrismAsks.{NewNames, asks, names_by}
use Rattle.prism_translation.specs.Targets.{Target, targets, old_name}

-- a target asks for its vector's result, and for a made name where that has none
abbrev pub action_ask : Target → Ask
action_ask t = (Action, old_name t)

abbrev pub all_asks : File → List Ask
all_asks file = asks file ++ map action_ask (targets file)

abbrev pub entries : File → List Entry
entries file = entries_of Prism (all_asks file)

-- the new names of a file
abbrev pub new_names : File → NewNames
new_names file = names_by file (entries file)
