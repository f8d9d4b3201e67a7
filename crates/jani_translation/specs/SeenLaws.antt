-- What holds of the constants and the columns of a translated file, under any valuation: statements, which are proved of the
-- functions of this crate.
use Rattle.std.specs.Prelude.{◌≡◌, ℕ, ◌++◌, length, map, bytes_eq, IfSome, None}
use Rattle.std.specs.List.{All, IsDistinct}
use Rattle.op_trees.specs.Seen.{Seen, known}
use Rattle.process_core.specs.Ready.{Name}
use Rattle.prism_tree.specs.Syntax as prism
use Rattle.process_core.specs.Instance.{Valuation, Column, numbered, constant_faults, column_faults}
use Rattle.prism_flat.specs.Kept.{IsWrittenOut}
use Rattle.prism_flat.specs.Scene as prism_scene
use Rattle.jani_meaning.specs.Elements.{elements}
use Rattle.jani_meaning.specs.Scene as jani_scene
use Rattle.jani_meaning.specs.Process as jani
use Rattle.prism_images.specs.Laws.{HasItsOperands, ComparesTruths}
use Rattle.name_table.specs.Asks.{variables, value_names, new_names}
use Rattle.jani_translation.specs.Translated.{translated}
use Rattle.jani_tree.specs.Syntax.{element_names}

-- ---- what is asked of a file and a valuation
-- an expression whose nodes have as many operands as their operators, and in which no `<=>` stands between two numbers
abbrev pub IsSound : (Name → Seen) → prism.Expression → Type 0
IsSound names e = HasItsOperands e × ComparesTruths names e

module _ (file : prism.File) (v : Valuation) where
  -- the expression of a constant is sound, to whatever depth the constants in it are looked up
  abbrev pub SoundConstant : prism.Const → Type 0
  SoundConstant c = (n : ℕ) → IfSome c.value (IsSound (λ x. known (prism_scene.constant_within file v n x)))

  abbrev pub SoundRange : prism.Range → Type 0
  SoundRange r = IsSound (λ x. known (prism_scene.constant file v x)) r.low × IsSound (λ x. known (prism_scene.constant file v x)) r.high

  -- the bounds and the first value of a variable are sound
  abbrev pub SoundVariable : prism.Var → Type 0
  SoundVariable x = IfSome x.range SoundRange × IfSome x.start (IsSound (λ y. known (prism_scene.constant file v y)))

  -- The file is written out, no two of its constants and variables have one name, and its expressions without variables are
  -- sound under the valuation.
  pub record IsSoundUnder : Type 0 where
    pub written : IsWrittenOut file
    pub distinct : IsDistinct bytes_eq (value_names file)
    pub constants : All SoundConstant file.constants
    pub variables : All SoundVariable (variables file)

  -- another valuation gives each constant without an expression, under its new name, the value that this one gives it
  abbrev pub GivenAlike : Valuation → prism.Const → Type 0
  GivenAlike w c = c.value ≡ None → w ((new_names file).value c.name.name) ≡ v c.name.name

  abbrev pub GivesAlike : Valuation → Type 0
  GivesAlike w = All (GivenAlike w) file.constants

-- ---- what follows
-- the column, under its new name
abbrev pub renamed_column : (Name → Name) → Column → Column
renamed_column new c = record { name = new c.name; domain = c.domain; first = c.first }

-- each name has, as a constant, the value that its new name has in the translated file
abbrev pub SameConstants : prism.File → Type 0
SameConstants file = (v w : Valuation) → IsSoundUnder file v → GivesAlike file v w → (x : Name) →
    jani_scene.constant (translated file) w ((new_names file).value x) ≡ prism_scene.constant file v x

-- constants are seen the same, in order
abbrev pub ConstantsSeenAlike : prism.File → Type 0
ConstantsSeenAlike file = (v w : Valuation) → IsSoundUnder file v → GivesAlike file v w →
    (jani_scene.scene (translated file) w).constants ≡ (prism_scene.scene file v).constants

-- the columns are the locations of the elements and then those of the file, under the new names, with the same ranges and
-- first values
abbrev pub ColumnsSeenAlike : prism.File → Type 0
ColumnsSeenAlike file = (v w : Valuation) → IsSoundUnder file v → GivesAlike file v w →
    (jani_scene.scene (translated file) w).columns
    ≡ map jani_scene.location_column (elements (translated file)) ++ map (renamed_column (new_names file).value) (prism_scene.scene file v).columns

-- the instance faults are the same, but that the columns of the translated file are counted behind its elements
abbrev pub FaultsAlike : prism.File → Type 0
FaultsAlike file = (v w : Valuation) → IsSoundUnder file v → GivesAlike file v w →
    (jani.model (translated file)).faults w
    ≡ numbered constant_faults 0 (prism_scene.scene file v).constants
    ++ numbered (column_faults (prism_scene.scene file v).has_condition) (length (element_names (translated file))) (prism_scene.scene file v).columns
