-- The sum of items, and what in it is wide or undefined.
use Rattle.std.proofs.Common.{◌≡◌, List, [], ◌∷◌, ◌++◌, Bool, true, false, not, ◌||◌, ◌&&◌, if◌then◌else◌, Option, Some, None, is_none, unwrap_or, Ok, Err, refl, ap, ◌∙◌, subst}
use Rattle.std.specs.List.{list_any, flat_map}
use Rattle.std.specs.Option.{option_map}
use Rattle.frac_core.specs.Fraction.{Fraction, nought, plus}
use Rattle.frac_core.specs.Sums.{total}
use Rattle.op_trees.specs.declared.tree.EvalFail.TheVariants as Fail
use Rattle.process_core.specs.Choices.{is_false, is_true, number_of, all_defined, with_first}
use Rattle.process_core.specs.Bounds.{Item, adds, summed, has_wide_sum, if_all}
use Rattle.state_choices.specs.Trimmed.{computed_sum, computed_number}
use Rattle.state_choices.specs.Items.{is_wide_item, is_undefined_item, numbers_of}
use Rattle.frac_core.specs.declared.fraction.FracFail.{FracFail}
use Rattle.frac_core.specs.Results.{narrow}
use Rattle.state_choices.proofs.Partial.{IsSoFar, sums_run, so_far_more, so_far_wide}

abbrev added_all : List Item → Option (List Fraction)
added_all is = all_defined (flat_map adds is)

module _ (f t : Bool) (o : Option Fraction) (rest : List (Option Fraction)) (later : Bool) where
  none_case : ((not f && (not t || is_none o)) || later) ≡ true → (later ≡ true → all_defined rest ≡ None) →
      all_defined ((if f then [] else ((if t then o else None) ∷ [])) ++ rest) ≡ None
  none_case h ih = by_parts f t o h
    where
      by_parts : (f t : Bool) (o : Option Fraction) → ((not f && (not t || is_none o)) || later) ≡ true → all_defined ((if f then [] else ((if t then o else None) ∷ [])) ++ rest) ≡ None
      by_parts true t o h = ih h
      by_parts false false o h = refl
      by_parts false true None h = refl
      by_parts false true (Some x) h = ap (with_first (Some x)) (ih h)

  all_case : (ns : List Fraction) → ((not f && (not t || is_none o)) || later) ≡ false → (later ≡ false → all_defined rest ≡ Some ns) →
      all_defined ((if f then [] else ((if t then o else None) ∷ [])) ++ rest) ≡ Some ((if f then [] else unwrap_or o nought ∷ []) ++ ns)
  all_case ns h ih = by_parts f t o h
    where
      by_parts : (f t : Bool) (o : Option Fraction) → ((not f && (not t || is_none o)) || later) ≡ false →
          all_defined ((if f then [] else ((if t then o else None) ∷ [])) ++ rest) ≡ Some ((if f then [] else unwrap_or o nought ∷ []) ++ ns)
      by_parts true t o h = ih h
      by_parts false false o h = absurd cc
      by_parts false true None h = absurd cc
      by_parts false true (Some x) h = ap (with_first (Some x)) (ih h)

none_added : (is : List Item) → list_any is_undefined_item is ≡ true → added_all is ≡ None
none_added [] h = absurd cc
none_added (i ∷ is) h = none_case (is_false i.guard.value) (is_true i.guard.value) (number_of i.value.value) (flat_map adds is) (list_any is_undefined_item is) h (none_added is)

numbers_added : (is : List Item) → list_any is_undefined_item is ≡ false → added_all is ≡ Some (flat_map numbers_of is)
numbers_added [] h = refl
numbers_added (i ∷ is) h =
    all_case (is_false i.guard.value) (is_true i.guard.value) (number_of i.value.value) (flat_map adds is) (list_any is_undefined_item is) (flat_map numbers_of is) h (numbers_added is)

-- ---- the sum as it is computed
module _ (is : List Item) where
  pub wide_trimmed : list_any is_wide_item is ≡ true → computed_sum (summed is) ≡ Err Fail.Wide
  wide_trimmed h = ap (λ b. if b || if_all (added_all is) has_wide_sum then Err Fail.Wide else computed_number (option_map total (added_all is))) h

  module _ (n : list_any is_wide_item is ≡ false) where
    pub by_added : computed_sum (summed is) ≡ (if if_all (added_all is) has_wide_sum then Err Fail.Wide else computed_number (option_map total (added_all is)))
    by_added = ap (λ b. if b || if_all (added_all is) has_wide_sum then Err Fail.Wide else computed_number (option_map total (added_all is))) n

    pub undefined_trimmed : list_any is_undefined_item is ≡ true → computed_sum (summed is) ≡ Err Fail.Undef
    undefined_trimmed h = by_added ∙ ap (λ o. if if_all o has_wide_sum then Err Fail.Wide else computed_number (option_map total o)) (none_added is h)

    pub numbers_trimmed : list_any is_undefined_item is ≡ false → computed_sum (summed is) ≡ (if has_wide_sum (flat_map numbers_of is) then Err Fail.Wide else Ok (total (flat_map numbers_of is)))
    numbers_trimmed h = by_added ∙ ap (λ o. if if_all o has_wide_sum then Err Fail.Wide else computed_number (option_map total o)) (numbers_added is h)

-- ---- one item more
pub item_more : (whole rest left : List Fraction) (f : Bool) (x s t : Fraction) → rest ≡ (if f then [] else x ∷ []) ++ left → (if f then Ok s else narrow (plus s x)) ≡ Ok t → IsSoFar sums_run whole rest s → IsSoFar sums_run whole left t
item_more whole rest left true x s t e h so_far = let same : s ≡ t = cc in subst (λ s. IsSoFar sums_run whole left s) same (subst (λ l. IsSoFar sums_run whole l s) e so_far)
item_more whole rest left false x s t e h so_far = so_far_more sums_run whole rest left x s t e h so_far

pub item_wide : (whole rest left : List Fraction) (f : Bool) (x s : Fraction) (g : FracFail) → rest ≡ (if f then [] else x ∷ []) ++ left → (if f then Ok s else narrow (plus s x)) ≡ Err g → IsSoFar sums_run whole rest s → has_wide_sum whole ≡ true
item_wide whole rest left true x s g e h so_far = absurd cc
item_wide whole rest left false x s g e h so_far = so_far_wide sums_run whole rest left x s g e h so_far
