-- The first value that doesn't fit, by those before the first that is past the bound.
use Rattle.std.proofs.Common.{arith, ◌≡◌, ◌∙◌, refl, ap, ap₂, ℕ, ◌<◌, ◌≤◌, List, length, Bool, true, false, Some, None}
use Rattle.std.specs.Prelude.{◌||◌, if◌then◌else◌}
use Rattle.std.specs.List.{list_any, position_or_len}
use Rattle.basics.specs.Members.{none_at_end}
use Rattle.process_core.specs.declared.data.Given.{Given}
use Rattle.instance_start.specs.Description.{Constant}
use Rattle.constant_folding.specs.Unfit.{unfit}
use Rattle.command_words.specs.Given.{Assignment}
use Rattle.model_process.specs.Constants.{givens, good_front, unfit_value}
use Rattle.model_process.proofs.Constants.{any_is, front_whole, is_late, late_is, not_late_is, position_is, position_within, unfit_given}

module _ (cs : List Constant) (values : List Assignment) where
  unfit_is : unfit_value cs values ≡ (if list_any (unfit_given cs) (good_front values) || is_late values then Some (position_or_len (unfit_given cs) (good_front values)) else None)
  unfit_is = ap₂ (λ b n. if b then Some n else None) (any_is cs values) (position_is cs values)

  front_cases : (a l : Bool) (p i : ℕ) → (if a then Some p else None) ≡ Some i → (if a || l then Some p else None) ≡ Some i
  front_cases true l p i o = o
  front_cases false l p i o = absurd cc

  -- one before the first that is past the bound
  pub unfit_by_front : (i : ℕ) → unfit cs (good_front values) ≡ Some i → unfit_value cs values ≡ Some i
  unfit_by_front i e = unfit_is ∙ front_cases (list_any (unfit_given cs) (good_front values)) (is_late values) (position_or_len (unfit_given cs) (good_front values)) i e

  past_cases : (a l : Bool) (p f : ℕ) → (a ≡ false → p ≡ f) → (if a then Some p else None) ≡ None → l ≡ true → (if a || l then Some p else None) ≡ Some f
  past_cases true l p f g o t = absurd cc
  past_cases false true p f g o t = ap Some (g refl)
  past_cases false false p f g o t = absurd cc

  -- that one itself
  pub unfit_by_past : unfit cs (good_front values) ≡ None → length (good_front values) < length values → unfit_value cs values ≡ Some (length (good_front values))
  unfit_by_past e h =
      unfit_is
      ∙ past_cases (list_any (unfit_given cs) (good_front values)) (is_late values) (position_or_len (unfit_given cs) (good_front values)) (length (good_front values))
      (none_at_end (unfit_given cs) (good_front values)) e (late_is cs values h)

  fit_cases : (a l : Bool) (p : ℕ) → (if a then Some p else None) ≡ None → l ≡ false → (if a || l then Some p else None) ≡ None
  fit_cases true l p o t = absurd cc
  fit_cases false true p o t = absurd cc
  fit_cases false false p o t = refl

  -- none is past the bound
  pub none_unfit : unfit cs (good_front values) ≡ None → (length (good_front values) < length values → ⊥) → (unfit_value cs values ≡ None) × (good_front values ≡ givens values)
  none_unfit e h =
      let t = not_late_is cs values h in
      (unfit_is ∙ fit_cases (list_any (unfit_given cs) (good_front values)) (is_late values) (position_or_len (unfit_given cs) (good_front values)) e t, (front_whole values t).0)

-- it stands within the values
pub unfit_within : (cs : List Constant) (gs : List Given) (i : ℕ) → unfit cs gs ≡ Some i → i ≤ length gs
unfit_within cs gs i e = by_cases (list_any (unfit_given cs) gs) e
  where
    by_cases : (a : Bool) → (if a then Some (position_or_len (unfit_given cs) gs) else None) ≡ Some i → i ≤ length gs
    by_cases true e = let same : position_or_len (unfit_given cs) gs ≡ i = cc in let h = position_within (unfit_given cs) gs in omega (arith, same, h)
    by_cases false e = absurd cc
