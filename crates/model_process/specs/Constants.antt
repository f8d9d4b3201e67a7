-- Which of the values that the words give for constants is wrong. (This project's own rule.)
use Rattle.std.specs.Prelude.{ℕ, List, [], ◌∷◌, length, Bool, true, not, Option, Some, None, if◌then◌else◌}
use Rattle.std.specs.List.{flat_map, list_any, position_or_len}
use Rattle.process_core.specs.Ready.{Name}
use Rattle.process_core.specs.declared.data.Given.{Given}
use Rattle.process_texts.specs.declared.given.GivenText.{GivenText}
use Rattle.process_texts.specs.declared.given.GivenText.TheVariants.{Good, Past, NoForm}
use Rattle.instance_start.specs.Description.{Constant}
use Rattle.instance_start.specs.Given.{fits, is_missing}
use Rattle.command_words.specs.Given.{Assignment}

-- the value that is given, unless it is past the bound
abbrev pub given_as : Name → GivenText → List Given
given_as x (Good v) = record { name = x; value = v } ∷ []
given_as x Past = []
given_as x NoForm = []

abbrev pub givens : List Assignment → List Given
givens values = flat_map (λ a. given_as a.name a.value) values

-- a value that is past the bound, or that no open constant takes
abbrev pub is_unfit_value : List Constant → Name → GivenText → Bool
is_unfit_value cs x (Good v) = not (fits cs (record { name = x; value = v }))
is_unfit_value cs x Past = true
is_unfit_value cs x NoForm = true

abbrev pub is_unfit : List Constant → Assignment → Bool
is_unfit cs a = is_unfit_value cs a.name a.value

-- The place of the first such value; or none.
abbrev pub unfit_value : List Constant → List Assignment → Option ℕ
unfit_value cs values = if list_any (is_unfit cs) values then Some (position_or_len (is_unfit cs) values) else None

-- The place of the first wrong one; at their count, that an open constant isn't given; or none.
abbrev pub wrong_value : List Constant → List Assignment → Option ℕ
wrong_value cs values =
    if list_any (is_unfit cs) values then Some (position_or_len (is_unfit cs) values)
    else (if list_any (is_missing (givens values)) cs then Some (length values) else None)

-- those before the first that is past the bound
abbrev pub before_past : Name → GivenText → List Given → List Given
before_past x (Good v) rest = record { name = x; value = v } ∷ rest
before_past x Past rest = []
before_past x NoForm rest = []

abbrev pub good_front : List Assignment → List Given
good_front [] = []
good_front (a ∷ values) = before_past a.name a.value (good_front values)
