-- Tables of the values of constants, and what a table more comes out as (jani-model specification, version 1: "Constants").
use Rattle.std.specs.Prelude.{◌≡◌, ℕ, List, map, true, Option, Some, None}
use Rattle.std.specs.List.{list_any, position}
use Rattle.std.specs.Option.{option_map}
use Rattle.op_trees.specs.Seen.{Seen, known_names}
use Rattle.op_trees.specs.declared.tree.Value.{Value}
use Rattle.process_core.specs.Ready.{Name}
use Rattle.process_core.specs.Instance.{Valuation}
use Rattle.jani_tree.specs.Syntax.{Const, File}
use Rattle.op_trees.specs.Names.{is_called}
use Rattle.jani_meaning.specs.Scene.{constant, constant_seen, constant_within, scene}
use Rattle.instance_start.specs.declared.data.Place.{Place}
use Rattle.instance_start.specs.declared.data.Place.TheVariants.{Constant}
use Rattle.jani_instance.specs.Built.{value_from}

-- where the first constant of this name stands
abbrev pub constant_place : List Const → Name → Option Place
constant_place cs x = option_map Constant (position (λ c. is_called x c.name) cs)

abbrev pub names_by : List Const → List (Option Value) → Name → Seen
names_by cs table = known_names (λ x. value_from table (position (λ c. is_called x c.name) cs))

-- no value for each
abbrev pub first_table : List Const → List (Option Value)
first_table cs = map (λ c. None) cs

-- what is seen of the constants, where those in their expressions have the values of a table
abbrev pub round_of : List Const → Valuation → List (Option Value) → List Seen
round_of cs v table = map (λ c. constant_seen (v c.name.name) (names_by cs table) c.value) cs

-- each value in a table is that of a constant whose expression leads through fewer than n others
abbrev pub AreWithin : File → Valuation → ℕ → List (Option Value) → Type 0
AreWithin file v n table = (x : Name) (w : Value) → value_from table (position (λ c. is_called x c.name) file.constants) ≡ Some w → constant_within file v n x ≡ Some w

-- the table of all constants; or none, where a constant is wide
abbrev pub Tabled : File → Valuation → Option (List (Option Value)) → Type 0
Tabled file v None = list_any (λ (s : Seen). s.wide) (scene file v).constants ≡ true
Tabled file v (Some table) = (x : Name) → value_from table (position (λ c. is_called x c.name) file.constants) ≡ constant file v x
