-- What a file without faults, its formulas and copies written out, meets under a valuation that gives each open constant a
-- value of its type: statements, which are proved of the functions of this crate.
use Rattle.std.specs.Prelude.{◌≡◌, true, Some, None}
use Rattle.std.specs.List.{All}
use Rattle.op_trees.specs.Types.{AgreesWith}
use Rattle.process_core.specs.Ready.{Values}
use Rattle.prism_tree.specs.Syntax as prism
use Rattle.process_core.specs.Instance.{Valuation}
use Rattle.prism_flat.specs.Process.{model}
use Rattle.prism_check.specs.Flattened.{IsFlat}
use Rattle.jani_translation.specs.SeenLaws.{IsSoundUnder}
use Rattle.jani_translation.specs.StateLaws.{CommandsAreSound, ConditionIsSound, MarksAreSound, ItemsAreSound}

-- what the valuation gives each constant without an expression, where it gives something, is a value of its type
abbrev pub GivesTyped : prism.File → Valuation → Type 0
GivesTyped file v = All (λ c. c.value ≡ None → AgreesWith (Some c.ty) (v c.name.name)) file.constants

-- the expressions of constants, bounds and first values are sound
abbrev pub FlatIsSound : prism.File → Type 0
FlatIsSound file = IsFlat file → (v : Valuation) → GivesTyped file v → IsSoundUnder file v

-- At a state it has a value for each variable, and the expressions of commands are sound there; what they write are variables.
abbrev pub FlatCommandsAreSound : prism.File → Type 0
FlatCommandsAreSound file = IsFlat file → (v : Valuation) → GivesTyped file v → (s : Values) → (model file).is_state v s ≡ true → CommandsAreSound file v s

-- At a state the initial condition, if there is one, is sound.
abbrev pub FlatConditionIsSound : prism.File → Type 0
FlatConditionIsSound file = IsFlat file → (v : Valuation) → GivesTyped file v → (s : Values) → (model file).is_state v s ≡ true → ConditionIsSound file v s

-- There is a module, and at a state the expressions of labels and items are sound, and no guard of an item is a number.
abbrev pub FlatMarksAreSound : prism.File → Type 0
FlatMarksAreSound file = IsFlat file → (v : Valuation) → GivesTyped file v → (s : Values) → (model file).is_state v s ≡ true → MarksAreSound file v s

-- At a state the expressions of items for choices are sound, and no guard of one is a number.
abbrev pub FlatItemsAreSound : prism.File → Type 0
FlatItemsAreSound file = IsFlat file → (v : Valuation) → GivesTyped file v → (s : Values) → (model file).is_state v s ≡ true → ItemsAreSound file v s
