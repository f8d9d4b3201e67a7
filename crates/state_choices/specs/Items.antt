-- What an item of a reward structure adds, each by itself.
use Rattle.std.specs.Prelude.{List, [], ◌∷◌, Bool, not, ◌||◌, ◌&&◌, is_none, unwrap_or, if◌then◌else◌}
use Rattle.frac_core.specs.Fraction.{Fraction, nought}
use Rattle.process_core.specs.Choices.{is_false, is_true, number_of}
use Rattle.process_core.specs.Bounds.{Item}

-- its guard is wide, or its value where that is needed
abbrev pub is_wide_item : Item → Bool
is_wide_item i = i.guard.wide || (is_true i.guard.value && i.value.wide)

-- it adds something undefined
abbrev pub is_undefined_item : Item → Bool
is_undefined_item i = not (is_false i.guard.value) && (not (is_true i.guard.value) || is_none (number_of i.value.value))

abbrev pub number_in : Item → Fraction
number_in i = unwrap_or (number_of i.value.value) nought

-- what it adds, where that is defined
abbrev pub numbers_of : Item → List Fraction
numbers_of i = if is_false i.guard.value then [] else number_in i ∷ []
