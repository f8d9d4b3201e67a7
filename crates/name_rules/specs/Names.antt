-- Names, sets of them, and what stands under them.
use Rattle.std.specs.Prelude.{ℕ, List, Bool, false, Option, Some, None, is_some, bytes_eq, ◌||◌, if◌then◌else◌}
use Rattle.std.specs.List.{list_any}
use Rattle.std.specs.Option.{option_or}
use Rattle.std.specs.BTreeMap.{get_by}
use Rattle.std.specs.Cmp.Lexicographic.{slice_cmp}
use Rattle.std.specs.Ordering.{nat_cmp}
use Rattle.bridge_io.specs.declared.reason.Named.{Named}
use Rattle.op_trees.specs.Names.{is_called}
use Rattle.name_rules.specs.declared.map.NameMap.{NameMap}
use Rattle.name_rules.specs.declared.names.Entry.{Entry}
use Rattle.name_rules.specs.declared.names.NameSet.{NameSet}

-- a name: its bytes
abbrev pub Name : Type 0
Name = List ℕ

abbrev pub is_among : List Named → Name → Bool
is_among ns x = list_any (is_called x) ns

abbrev pub named_by : Entry → Named
named_by e = record { name = e.name.now; at = e.at }

-- ---- what stands under names; a proof that opens this knows more than that the names are found
unfoldable pub under : {T : Type 0} → NameMap T → Name → Option T
under m x = get_by (λ k. slice_cmp nat_cmp x k.now) m.entries

abbrev pub nothing : {T : Type 0} → Name → Option T
nothing x = None

-- this value under this name
abbrev pub put : {T : Type 0} → (Name → Option T) → Name → T → Name → Option T
put values name value x = if bytes_eq name x then Some value else values x

-- this value under this name, if none stands there
abbrev pub put_first : {T : Type 0} → (Name → Option T) → Name → T → Name → Option T
put_first values name value x = option_or (values x) (if bytes_eq name x then Some value else None)

-- ---- sets
abbrev pub has_name : NameSet → Name → Bool
has_name set x = is_some (under set.names x)

abbrev pub no_name : Name → Bool
no_name x = false

-- this name besides
abbrev pub add : (Name → Bool) → Name → Name → Bool
add has name x = bytes_eq name x || has x

abbrev pub is_in : List Name → Name → Bool
is_in names x = list_any (λ y. bytes_eq y x) names

-- these names besides
abbrev pub with_all : (Name → Bool) → List Name → Name → Bool
with_all has names x = has x || is_in names x
