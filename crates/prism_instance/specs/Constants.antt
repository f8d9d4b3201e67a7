-- The values of the constants of a file that is written out, in an order in which each stands behind those that it needs. (PRISM
-- manual, "The PRISM Language": "Constants".)
use Rattle.std.specs.Prelude.{◌≡◌, ℕ, List, map, length, true, false, Option, Some, nat_eq, slice_get}
use Rattle.std.specs.List.{list_any}
use Rattle.op_trees.specs.Seen.{Seen}
use Rattle.op_trees.specs.declared.tree.Value.{Value}
pub use Rattle.prism_check.specs.NameFaults.{declared_const}
use Rattle.process_core.specs.Ready.{Name, Values}
use Rattle.process_core.specs.Instance.{Valuation}
use Rattle.process_core.specs.declared.data.StartFail.{StartFail}
use Rattle.process_core.specs.declared.data.StartFail.TheVariants.{Memory, Wide, Faults, Word}
use Rattle.prism_tree.specs.Syntax.{Const, File}
use Rattle.instance_start.specs.Columns.{value_at}
use Rattle.prism_instance.specs.Places.{constant_place}
use Rattle.prism_names.specs.Names.{unchanged}
use Rattle.prism_flat.specs.Scene.{constant, constant_seen, constant_names, scene}

-- what a constant comes out as
abbrev pub seen_constant : File → Valuation → Const → Seen
seen_constant file v c = constant_seen (v c.name.name) (constant_names file v unchanged) c.value

-- a value that isn't wide, or none
abbrev pub narrow_value : Option Value → Seen
narrow_value o = record { value = o; wide = false }

-- those of the constants that had their turn are in the table, and aren't wide
pub record AreTurned (file : File) (v : Valuation) (table : List (Option Value)) (turns : List ℕ) : Type 0 where
  pub size : length table ≡ length file.constants
  pub right : (i : ℕ) (c : Const) → slice_get file.constants i ≡ Some c → list_any (nat_eq i) turns ≡ true →
      slice_get (map narrow_value table) i ≡ Some (seen_constant file v c)

-- the table has the values of all constants
abbrev pub AreValues : File → Valuation → List (Option Value) → Type 0
AreValues file v table = map narrow_value table ≡ (scene file v).constants

-- and so has each name its value, whatever variables have
pub record AreConstants (file : File) (v : Valuation) (table : List (Option Value)) : Type 0 where
  pub values : AreValues file v table
  pub names : (s : Values) (x : Name) → value_at s table (constant_place 0 file.constants x) ≡ constant file v x

-- a constant is wide, or memory is wanting
abbrev pub HasWideConstant : File → Valuation → StartFail → Type 0
HasWideConstant file v (Memory e) = Unit {0}
HasWideConstant file v Wide = list_any (λ s. s.wide) (scene file v).constants ≡ true
HasWideConstant file v (Faults fs) = ⊥
HasWideConstant file v (Word i) = ⊥
