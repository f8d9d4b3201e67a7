-- The probabilities of a participant, and what is wrong with them.
use Rattle.std.proofs.Common.{◌≡◌, List, [], ◌∷◌, map, Bool, true, false, not, ◌||◌, Option, Some, None, is_none, unwrap_or, refl, sym, ap, ap₂, ◌∙◌}
use Rattle.std.specs.List.{list_any}
use Rattle.basics.specs.Members.{any-map}
use Rattle.frac_core.specs.Fraction.{Fraction, nought, unit, same_number}
use Rattle.frac_core.specs.Sums.{total}
use Rattle.process_core.specs.Product.{map-map}
use Rattle.process_core.specs.Ready as core
use Rattle.process_core.specs.Choices.{number_of, all_defined, with_first, weights_of, weight_of, weighs_wrong, is_negative}
use Rattle.process_core.specs.Bounds.{if_all, has_wide_sum}
use Rattle.state_choices.specs.declared.data.Update.{Update}
use Rattle.state_choices.specs.Views.{seen_of, update_of}

module _ {A X : Type 0} (f : A → Option X) (d : X) where
  defined_none : (xs : List A) → list_any (λ x. is_none (f x)) xs ≡ true → all_defined (map f xs) ≡ None
  defined_none [] h = absurd cc
  defined_none (x ∷ xs) h = by_first (f x) h (defined_none xs)
    where
      by_first : (o : Option X) → (is_none o || list_any (λ x. is_none (f x)) xs) ≡ true → (list_any (λ x. is_none (f x)) xs ≡ true → all_defined (map f xs) ≡ None) → with_first o (all_defined (map f xs)) ≡ None
      by_first None k ih = refl
      by_first (Some y) k ih = ap (with_first (Some y)) (ih k)

  defined_all : (xs : List A) → list_any (λ x. is_none (f x)) xs ≡ false → all_defined (map f xs) ≡ Some (map (λ x. unwrap_or (f x) d) xs)
  defined_all [] h = refl
  defined_all (x ∷ xs) h = by_first (f x) h (defined_all xs)
    where
      by_first : (o : Option X) → (is_none o || list_any (λ x. is_none (f x)) xs) ≡ false → (list_any (λ x. is_none (f x)) xs ≡ false → all_defined (map f xs) ≡ Some (map (λ x. unwrap_or (f x) d) xs)) → with_first o (all_defined (map f xs)) ≡ Some (unwrap_or o d ∷ map (λ x. unwrap_or (f x) d) xs)
      by_first None k ih = absurd cc
      by_first (Some y) k ih = ap (with_first (Some y)) (ih k)

module _ (us : List Update) where
  abbrev undefined : Bool
  undefined = list_any (λ u. is_none (number_of (seen_of u.weight).value)) us

  abbrev weights : List Fraction
  weights = map (λ u. weight_of (update_of u)) us

  weights_are : weights_of (map update_of us) ≡ all_defined (map (λ u. number_of (seen_of u.weight).value) us)
  weights_are = ap all_defined (map-map (λ (u : core.Update). number_of u.weight.value) update_of us)

  weights_none : undefined ≡ true → weights_of (map update_of us) ≡ None
  weights_none h = weights_are ∙ defined_none (λ (u : Update). number_of (seen_of u.weight).value) nought us h

  weights_all : undefined ≡ false → weights_of (map update_of us) ≡ Some weights
  weights_all h = weights_are ∙ defined_all (λ (u : Update). number_of (seen_of u.weight).value) nought us h

  pub wide_sum_is : undefined ≡ false → if_all (weights_of (map update_of us)) has_wide_sum ≡ has_wide_sum weights
  wide_sum_is h = ap (λ w. if_all w has_wide_sum) (weights_all h)

  pub none_wide : undefined ≡ true → if_all (weights_of (map update_of us)) has_wide_sum ≡ false
  none_wide h = ap (λ w. if_all w has_wide_sum) (weights_none h)

  pub none_wrong : undefined ≡ true → weighs_wrong (weights_of (map update_of us)) ≡ false
  none_wrong h = ap weighs_wrong (weights_none h)

  pub wrong_is : (negative : Bool) (sum : Fraction) → undefined ≡ false → negative ≡ list_any (λ u. is_negative (weight_of (update_of u))) us → sum ≡ total weights →
      (negative || not (same_number sum unit)) ≡ weighs_wrong (weights_of (map update_of us))
  wrong_is negative sum h n e =
      ap₂ (λ b s. b || not (same_number s unit)) (n ∙ sym (any-map is_negative (λ (u : Update). weight_of (update_of u)) us)) e
      ∙ ap weighs_wrong (sym (weights_all h))
