-- Actions with their new names: what the pair of an action is, and that labels differ where new names do.
use Rattle.std.specs.Prelude.{◌≡◌, List, [], ◌∷◌, map, Bool, true, false, ◌||◌, cond, Some, is_none, bytes_eq, Contains}
use Rattle.std.specs.List.{find, list_any, IsDistinct, AllByRecursion as Each}
use Rattle.std.proofs.Common.{refl, sym, ap, ◌∙◌, map-id}
use Rattle.std.proofs.lemmas.Slice.Eq.{bytes_eq-Decides}
use Rattle.basics.specs.Booleans.{not_both}
use Rattle.basics.specs.Each.{each_any}
use Rattle.basics.specs.Mapped.{any_mapped, mapped}
use Rattle.basics.specs.Texts.{bytes_eq_comm, bytes_eq-true, bytes_ne}
use Rattle.process_core.specs.Ready.{Name, same_label}
use Rattle.carry_maps.specs.Maps.{label_in, jani_label, has_pair, HasLabels}
use Rattle.prism_to_jani.specs.Maps.{pair_by}

module _ (new : Name → Name) where
  pub names_kept : (xs : List Name) → map (λ p. p.prism) (map (pair_by new) xs) ≡ xs
  names_kept xs = mapped (pair_by new) (λ p. p.prism) (λ x. x) (λ x. refl) xs ∙ map-id xs

  -- ---- the pair of an action
  pub pair_stands : (a : Name) (xs : List Name) → list_any (λ y. bytes_eq y a) xs ≡ true → has_pair (map (pair_by new) xs) (Some a) ≡ true
  pair_stands a xs h = any_mapped (pair_by new) (λ p. bytes_eq a p.prism) (λ y. bytes_eq y a) (bytes_eq_comm a) xs ∙ h

  pub label_found : (a : Name) (xs : List Name) → list_any (λ y. bytes_eq y a) xs ≡ true → jani_label (map (pair_by new) xs) (Some a) ≡ Some (new a)
  label_found a [] h = absurd cc
  label_found a (x ∷ xs) h = by_test (bytes_eq a x) refl (ap (λ b. b || list_any (λ y. bytes_eq y a) xs) (bytes_eq_comm a x) ∙ h) (label_found a xs)
    where
      by_test : (b : Bool) → bytes_eq a x ≡ b → (b || list_any (λ y. bytes_eq y a) xs) ≡ true →
          (list_any (λ y. bytes_eq y a) xs ≡ true → jani_label (map (pair_by new) xs) (Some a) ≡ Some (new a)) →
          label_in (cond b (Some (pair_by new x)) (find (λ p. bytes_eq a p.prism) (map (pair_by new) xs))) ≡ Some (new a)
      by_test true e k ih = ap (λ y. Some (new y)) (sym (bytes_eq-true a x e))
      by_test false e k ih = ih k

  -- ---- labels
  module _ (all : List Name) (differ : (a b : Name) → Contains all a → new b ≡ new a → b ≡ a) where
    others : (x : Name) (ys : List Name) → Each (λ y. bytes_eq x y ≡ false) ys → Each (Contains all) ys →
        Each (λ o. same_label (Some (new x)) o ≡ false) (map (λ p. p.jani) (map (pair_by new) ys))
    others x [] d c = tt
    others x (y ∷ ys) d c = (bytes_ne (new x) (new y) (λ q. not_both (bytes_eq x y) ((bytes_eq-Decides x y).1 (differ y x c.0 q)) d.0), others x ys d.1 c.1)

    labels_differ : (xs : List Name) → IsDistinct bytes_eq xs → Each (Contains all) xs → IsDistinct same_label (map (λ p. p.jani) (map (pair_by new) xs))
    unfolding IsDistinct
    labels_differ [] d c = tt
    labels_differ (x ∷ xs) d c = (others x xs d.0 c.1, labels_differ xs d.1 c.1)

    pub have_labels : (xs : List Name) → IsDistinct bytes_eq xs → Each (Contains all) xs → HasLabels (map (pair_by new) xs)
    have_labels xs d c = record {
      each = each_any (λ p. is_none p.jani ≡ false) (pair_by new) (λ x. refl) xs;
      differ = labels_differ xs d c;
    }
