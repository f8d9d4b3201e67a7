-- What comes of the given values, of which those before the first that is past the bound are looked at.
-- (The bound is that of exact fractions; which value is told first is a rule of this project.)
use Rattle.std.specs.Prelude.{◌≡◌, ◌⊎◌, ℕ, ◌+◌, List, Some, None}
use Rattle.instance_start.specs.Description.{Constant}
use Rattle.command_words.specs.Given.{Assignment}
use Rattle.model_process.specs.Constants.{givens, good_front, unfit_value}
use Rattle.model_process.specs.declared.ending.Ending.{Ending}
use Rattle.model_process.specs.declared.ending.Ending.TheVariants as E

-- one of them doesn't fit, and it ends at its word
abbrev pub IsUnfit : List Constant → List Assignment → Ending → Type 0
IsUnfit constants given e = (i : ℕ) × (unfit_value constants given ≡ Some i) × (e ≡ E.Word (3 + 1 + i))

-- or all fit, and it ends with this text
abbrev pub IsFinished : List Constant → List Assignment → List ℕ → Ending → Type 0
IsFinished constants given text e = IsUnfit constants given e ⊎ ((unfit_value constants given ≡ None) × (good_front given ≡ givens given) × (e ≡ E.Done text))
