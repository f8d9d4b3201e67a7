-- The groups of combinations of a PRISM file before a state is known: which commands and which reward items belong together
-- (PRISM manual, "The PRISM Language": "Commands", "Synchronisation", "Costs and Rewards").
use Rattle.std.specs.Prelude.{ℕ, List, [], map, Bool, Option, bytes_eq}
use Rattle.std.specs.List.{flat_map, filter}
use Rattle.op_trees.specs.Seen.{Seen}
use Rattle.basics.specs.Options.{if_some}
use Rattle.process_core.specs.Ready.{Name, Write, Update, Ready, Sum, same_label, firsts}
use Rattle.process_core.specs.Bounds as core
use Rattle.process_core.specs.Bounds.{summed}
use Rattle.process_core.specs.Instance.{Column, numbered, only_if, write_to}
use Rattle.prism_tree.specs.Syntax.{Branch, Command, Item, Module, plain, copied, Rewards, File}
use Rattle.prism_tree.specs.Syntax as syntax
use Rattle.prism_names.specs.Names.{unchanged, see}
use Rattle.prism_flat.specs.Moment.{Adds, adds_of, action_of, place_of, weight_seen}
use Rattle.prism_flat.specs.Process.{is_for_states, is_for_choices}
use Rattle.instance_start.specs.Numbered.{Numbered}

abbrev pub acts : Option Name → Command → Bool
acts a c = same_label a (action_of unchanged c)

-- the items of a structure that are for something
abbrev pub items_for : (Adds → Bool) → Rewards → List Item
items_for wanted r = filter (λ i. wanted (adds_of i.on)) r.items

-- those of each structure that choices with this label earn
abbrev pub earned : List Rewards → Option Name → List (List Item)
earned rewards label = map (items_for (is_for_choices label)) rewards

-- the same in one list, each with the number of its structure
abbrev pub earned_from : Option Name → ℕ → Item → List (Numbered Item)
earned_from label k i = only_if (is_for_choices label (adds_of i.on)) (record { number = k; value = i })

abbrev pub earnings : List Rewards → Option Name → List (Numbered Item)
earnings rewards label = numbered (λ k r. flat_map (earned_from label k) r.items) 0 rewards

-- those that states earn
abbrev pub earned_in_states : List Rewards → List (List Item)
earned_in_states rewards = map (items_for is_for_states) rewards

-- the commands of each module; of a copy, that isn't written out, none
abbrev pub own_commands : Module → List Command
own_commands (plain m) = m.commands
own_commands (copied m) = []

abbrev pub bodies : List Module → List (List Command)
bodies ms = map own_commands ms

-- the actions that occur, in order of first occurrence
abbrev pub acting : List (List Command) → List Name
acting ms = firsts bytes_eq (flat_map (λ m. flat_map (λ c. if_some (action_of unchanged c)) m) ms)

-- ---- at a state, whose names are seen so; names of a file that is written out stand for themselves
abbrev pub item_under : (Name → Seen) → Item → core.Item
item_under names i = record { guard = see i.guard names; value = see i.value names }

abbrev pub sum_under : (Name → Seen) → List Item → Sum
sum_under names is = summed (map (item_under names) is)

module _ (cs : List Column) (names : Name → Seen) where
  abbrev pub write_under : syntax.Write → Write
  write_under w = write_to cs (place_of cs w.name.name) (see w.value names)

  abbrev pub update_under : Branch → Update
  update_under b = record { weight = weight_seen names b.weight; writes = map write_under b.writes; rewards = [] }

  abbrev pub command_under : Command → Ready
  command_under c = record { action = action_of unchanged c; guard = see c.guard names; updates = map update_under c.branches }
