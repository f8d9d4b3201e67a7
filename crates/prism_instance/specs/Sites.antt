-- Modules sorted by what their commands synchronise on: those without action, those of each action, and the actions; and what these
-- are at a state as parts of a network. (PRISM manual, "The PRISM Language": "Commands", "Synchronisation", "Costs and Rewards".)
use Rattle.std.specs.Prelude.{◌≡◌, ℕ, List, map, length, Option, Some, None, bytes_eq, option_copied}
use Rattle.std.specs.Borrow.{Bor}
use Rattle.std.specs.List.{filter, flat_map, position_or_len}
use Rattle.op_trees.specs.Seen.{Seen}
use Rattle.basics.specs.Options.{if_some}
use Rattle.gathering.specs.Lists.{list_under}
use Rattle.process_core.specs.Ready.{Name, Sum, firsts}
use Rattle.process_core.specs.Bounds.{summed}
use Rattle.process_core.specs.Instance.{Column, numbered, only_if}
use Rattle.prism_tree.specs.Syntax.{Command, Item, Rewards, command_of, item_of}
use Rattle.prism_names.specs.Names.{unchanged}
use Rattle.prism_flat.specs.Moment.{action_of}
use Rattle.instance_start.specs.Numbered.{Numbered, by_number, with_value}
use Rattle.expr_store.specs.declared.node.ExprId.{ExprId}
use Rattle.network.specs.Combined.{Site, erased}
use Rattle.network.specs.Views.{Member, own_or, sums_at}
use Rattle.network.specs.declared.data.Link.{Link}
use Rattle.network.specs.declared.data.Vector.{Vector}
use Rattle.prism_instance.specs.Shapes.{acts, command_under, earnings, item_under}
use Rattle.prism_instance.specs.Views.{commands_of}
use Rattle.prism_instance.specs.declared.data.Acted.{Acted}
use Rattle.prism_instance.specs.declared.data.ItemOf.{ItemOf}
use Rattle.prism_instance.specs.declared.earnings.Earnings.{Earnings}
use Rattle.prism_instance.specs.declared.data.Sorted as code

-- the actions of commands, each once, in order of first occurrence
abbrev pub acts_of : List Command → List Name
acts_of m = firsts bytes_eq (flat_map (λ c. if_some (action_of unchanged c)) m)

-- a command by the number of its action, if it has one
abbrev pub acted_by : (Name → ℕ) → Command → List (Numbered Command)
acted_by number c = map (λ a. record { number = number a; value = c }) (if_some (action_of unchanged c))

abbrev pub number_among : List Name → Name → ℕ
number_among l x = position_or_len (bytes_eq x) l

pub record Sorted : Type 0 where
  pub silent : List Command
  pub acting : List (Numbered Command)
  pub actions : List Name

abbrev pub sorted : List Command → Sorted
sorted m = record { silent = filter (acts None) m; acting = flat_map (acted_by (number_among (acts_of m))) m; actions = acts_of m }

-- ---- what the program's data stands for
abbrev pub acted_of : Acted → Numbered Command
acted_of a = record { number = a.action; value = command_of a.command.now }

abbrev pub earned_of : ItemOf → Numbered Item
earned_of e = record { number = e.structure; value = item_of e.item.now }

-- the items that choices earn, by their labels
pub record AreEarnings (rewards : List Rewards) (e : Earnings) : Type 0 where
  pub silent : map earned_of e.silent.items ≡ earnings rewards None
  pub named : (x : Name) → map earned_of (list_under e.named x) ≡ earnings rewards (Some x)

abbrev pub texts_of : List (Bor (List ℕ)) → List Name
texts_of xs = map (λ x. x.now) xs

abbrev pub sorted_of : code.Sorted → Sorted
sorted_of s = record { silent = commands_of s.silent.items; acting = map acted_of s.acting.items; actions = texts_of s.actions.items }

abbrev pub actions_in : code.Sorted → List Name
actions_in s = texts_of s.actions.items

-- ---- at a state
module _ (cs : List Column) (seen : Name → Seen) where
  abbrev pub site_under : List Command → Site
  site_under m = record { acts = acts_of m; edges = map (command_under cs seen) m }

  abbrev pub member_under : Sorted → Member
  member_under k = record {
    silent = map (λ c. erased (command_under cs seen c)) k.silent;
    parts = by_number (length k.actions) (map (with_value (λ c. erased (command_under cs seen c))) k.acting);
  }

-- ---- links of an action
-- this part of this component, where it is that of the action
abbrev pub link_if : Name → ℕ → ℕ → Name → List Link
link_if x i p n = only_if (bytes_eq n x) (record { component = i; part = p })

abbrev pub links_of : Name → ℕ → List Name → List Link
links_of x i l = numbered (link_if x i) 0 l

abbrev pub links_among : Name → List (List Name) → List Link
links_among x ls = numbered (links_of x) 0 ls

-- ---- vectors
pub record Linked : Type 0 where
  pub label : Option Name
  pub rewards : List Sum
  pub links : List Link

-- where a vector without rewards of its own has these
abbrev pub linked_at : (ExprId → Seen) → ℕ → List Sum → Vector → Linked
linked_at look n shared v = record { label = option_copied v.label; rewards = own_or (sums_at look n) shared v.earned; links = v.links.items }

-- of the items and the links of each action
abbrev pub linked_with : (Name → Seen) → ℕ → (Name → List (Numbered Item)) → (Name → List Link) → Name → Linked
linked_with seen n items links a = record { label = Some a; rewards = map summed (by_number n (map (with_value (item_under seen)) (items a))); links = links a }

abbrev pub linked_under : (Name → Seen) → ℕ → List Rewards → (Name → List Link) → Name → Linked
linked_under seen n rewards links = linked_with seen n (λ a. earnings rewards (Some a)) links
