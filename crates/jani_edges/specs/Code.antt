-- What the code's values stand for.
use Rattle.std.specs.Prelude.{◌≡◌, ℕ, List, [], ◌∷◌, map, Bool, Option, Some, None, bytes_eq, unwrap_or, if◌then◌else◌}
use Rattle.std.specs.Borrow.{Bor}
use Rattle.std.specs.List.{flat_map}
use Rattle.std.specs.Option.{option_map}
use Rattle.bridge_io.specs.declared.reason.Named.{Named}
use Rattle.process_core.specs.Ready.{Name}
use Rattle.gathering.specs.Lists.{list_under}
use Rattle.prism_tree.specs.declared.syntax.ItemOn.{ItemOn}
use Rattle.prism_tree.specs.Syntax.{Item, File, item_of}
use Rattle.jani_tree.specs.Syntax.{Write, Destination, Edge}
use Rattle.name_table.specs.declared.entry.Entry.{Entry}
use Rattle.name_rules.specs.declared.map.NameMap.{NameMap}
use Rattle.name_rules.specs.Names.{has_name, under}
use Rattle.jani_edges.specs.declared.new_names.NewNameMap.{NewNameMap}
use Rattle.jani_edges.specs.declared.new_names.Names.{Names}
use Rattle.jani_edges.specs.declared.partners.Partners.{Partners}
use Rattle.jani_edges.specs.declared.rewards.Wanted.{Wanted}
use Rattle.jani_edges.specs.declared.rewards.Wanted.TheVariants as W
use Rattle.jani_edges.specs.declared.shares.Items.{Items}
use Rattle.jani_edges.specs.declared.shares.Share.{Share}
use Rattle.jani_edges.specs.declared.shares.Shares.{Shares}
use Rattle.name_table.specs.Asks.{NewNames, bodies}
use Rattle.jani_translation.specs.Parts.{instead_if}
use Rattle.jani_translation.specs.Automata.{loc, for_states, for_silent, for_action, has_items, sum_to, rewards_of}
use Rattle.jani_translation.specs.Translated.{has_command}

-- the new name of the first old one that is this one
abbrev pub found : List Name → List Entry → Name → Option Name
found [] es x = None
found (y ∷ ys) [] x = None
found (y ∷ ys) (e ∷ es) x = if bytes_eq y x then Some e.name else found ys es x

-- what a name is found as
abbrev pub new_in : NameMap (Bor Name) → Name → Option Name
new_in m x = option_map (λ k. k.now) (under m x)

abbrev pub name_in : NewNameMap → Name → Name
name_in t x = unwrap_or (new_in t.new_names x) []

abbrev pub names_in : Names → NewNames
names_in n = record {
  constants = n.constants.now;
  variables = n.variables.now;
  labels = n.labels.now;
  rewards = n.rewards.now;
  modules = n.modules.now;
  value = name_in n.value;
  action = name_in n.action;
}

-- a kind of items
abbrev pub wanted_by : Wanted → ItemOn → Bool
wanted_by W.States = for_states
wanted_by W.Silent = for_silent

-- the items for an action
abbrev pub items_under : Items → Name → List Item
items_under t x = map (λ i. item_of i.now) (list_under t.by_action x)

-- what gives a structure the sum of its share in an action, and all structures theirs
abbrev pub share_writes : NewNames → Share → List Write
share_writes n s = sum_to n (instead_if s.structure.now.name s.named.now.name) (map (λ i. item_of i.now) s.items)

abbrev pub shared_writes : NewNames → Shares → Name → List Write
shared_writes n t x = flat_map (share_writes n) (list_under t.by_action x)

-- these are the actions of each module's commands, and those that items are for
pub record ArePartners (p : Partners) (file : File) : Type 0 where
  pub modules : (x : Name) → map (λ t. has_name t x) p.modules.items ≡ map (has_command x) (bodies file)
  pub items : (x : Name) → has_name p.items x ≡ has_items (for_action x) file

-- these are the shares of the file's structures
abbrev pub AreShares : NewNames → Shares → File → Type 0
AreShares n t file = (x : Name) → shared_writes n t x ≡ rewards_of n (for_action x) file.rewards

-- an edge of the monitor that writes these
abbrev pub gain_destinations : List Write → List Destination
gain_destinations ws = record { location = loc; weight = None; writes = ws } ∷ []

abbrev pub gain_edge : Named → List Write → Edge
gain_edge a ws = record { location = loc; action = Some a; guard = None; destinations = gain_destinations ws; at = 0 }
