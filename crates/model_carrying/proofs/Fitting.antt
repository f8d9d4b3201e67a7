-- Where no value that the words give is wrong, none is past the bound.
use Rattle.std.proofs.Common.{◌≡◌, List, [], ◌∷◌, ◌++◌, length, Bool, true, false, Some, None, refl, ap}
use Rattle.std.specs.Prelude.{if◌then◌else◌}
use Rattle.std.specs.List.{list_any, position_or_len}
use Rattle.basics.specs.Booleans.{first_false, second_false}
use Rattle.process_texts.specs.declared.given.GivenText.{GivenText}
use Rattle.process_texts.specs.declared.given.GivenText.TheVariants.{Good, Past, NoForm}
use Rattle.instance_start.specs.Description.{Constant}
use Rattle.instance_start.specs.Given.{is_missing}
use Rattle.command_words.specs.Given.{Assignment}
use Rattle.model_process.specs.Constants.{givens, given_as, is_unfit, is_unfit_value, wrong_value, before_past, good_front}

none_unfit : (cs : List Constant) (values : List Assignment) → wrong_value cs values ≡ None → list_any (is_unfit cs) values ≡ false
none_unfit cs values h = by_test (list_any (is_unfit cs) values) h
  where
    by_test : (b : Bool) → (if b then Some (position_or_len (is_unfit cs) values) else (if list_any (is_missing (givens values)) cs then Some (length values) else None)) ≡ None → b ≡ false
    by_test true e = absurd cc
    by_test false e = refl

all_good : (cs : List Constant) (values : List Assignment) → list_any (is_unfit cs) values ≡ false → good_front values ≡ givens values
all_good cs [] h = refl
all_good cs (a ∷ values) h = by_value a.value (first_false (is_unfit_value cs a.name a.value) _ h) (all_good cs values (second_false (is_unfit_value cs a.name a.value) _ h))
  where
    by_value : (v : GivenText) → is_unfit_value cs a.name v ≡ false → good_front values ≡ givens values → before_past a.name v (good_front values) ≡ given_as a.name v ++ givens values
    by_value (Good v) k ih = ap (λ gs. record { name = a.name; value = v } ∷ gs) ih
    by_value Past k ih = absurd cc
    by_value NoForm k ih = absurd cc

pub all_before : (cs : List Constant) (values : List Assignment) → wrong_value cs values ≡ None → good_front values ≡ givens values
all_before cs values h = all_good cs values (none_unfit cs values h)
