-- The items that choices earn, in one list with the numbers of their structures, are those of each structure.
use Rattle.std.proofs.Common.{◌≡◌, ℕ, ◌<◌, ◌≤◌, ◌+◌, List, [], ◌∷◌, ◌++◌, map, length, Bool, true, false, cond, Option, nat_eq, refl, sym, ap, ap₂, ◌∙◌, append-nil, append_assoc, arith, eqb-true}
use Rattle.std.specs.Prelude.{if◌then◌else◌}
use Rattle.std.specs.List.{filter, flat_map, range_with_len}
use Rattle.basics.specs.Numbers.{nat_eq-self}
use Rattle.process_core.specs.Instance.{numbered, only_if}
use Rattle.process_core.specs.Ready.{Name}
use Rattle.instance_start.specs.Numbered.{Numbered, by_number, of_number}
use Rattle.instance_start.proofs.Numbered.{of_append}
use Rattle.prism_tree.specs.Syntax.{Item, Rewards}
use Rattle.prism_check.specs.Moment.{adds_of}
use Rattle.prism_check.specs.Process.{is_for_choices}
use Rattle.prism_instance.specs.Shapes.{earned, earned_from, earnings}

apart : (k a : ℕ) (b : Bool) → nat_eq k a ≡ b → (k ≡ a → ⊥) → nat_eq k a ≡ false
apart k a true e h = absurd (h (eqb-true k a e))
apart k a false e h = e

module _ (label : Option Name) where
  abbrev wanted : Item → Bool
  wanted i = is_for_choices label (adds_of i.on)

  abbrev from : ℕ → Rewards → List (Numbered Item)
  from k r = flat_map (earned_from label k) r.items

  of_item : (k a : ℕ) (b : Bool) → nat_eq k a ≡ b → (i : Item) → of_number k (earned_from label a i) ≡ (if b then only_if (wanted i) i else [])
  of_item k a b e i = by_test (wanted i) b e
    where
      by_test : (c b : Bool) → nat_eq k a ≡ b → of_number k (only_if c (record { number = a; value = i })) ≡ (if b then only_if c i else [])
      by_test true true e = ap (λ t. map (λ (x : Numbered Item). x.value) (cond t (record { number = a; value = i } ∷ []) [])) e
      by_test true false e = ap (λ t. map (λ (x : Numbered Item). x.value) (cond t (record { number = a; value = i } ∷ []) [])) e
      by_test false true e = refl
      by_test false false e = refl

  of_items : (k a : ℕ) (b : Bool) → nat_eq k a ≡ b → (is : List Item) → of_number k (flat_map (earned_from label a) is) ≡ (if b then filter wanted is else [])
  of_items k a true e [] = refl
  of_items k a false e [] = refl
  of_items k a b e (i ∷ is) =
      of_append k (earned_from label a i) (flat_map (earned_from label a) is)
      ∙ ap₂ (λ x y. x ++ y) (of_item k a b e i) (of_items k a b e is)
      ∙ joined b (wanted i)
    where
      joined : (b c : Bool) → (if b then only_if c i else []) ++ (if b then filter wanted is else []) ≡ (if b then cond c (i ∷ filter wanted is) (filter wanted is) else [])
      joined true true = refl
      joined true false = refl
      joined false true = refl
      joined false false = refl

  -- none of structures behind
  later : (k a : ℕ) → k < a → (rs : List Rewards) → of_number k (numbered from a rs) ≡ []
  later k a h [] = refl
  later k a h (r ∷ rs) =
      of_append k (from a r) (numbered from (a + 1) rs)
      ∙ ap₂ (λ x y. x ++ y) (of_items k a false (apart k a _ refl (λ e. omega (arith, h, e))) r.items) (later k (a + 1) (let d : k < a + 1 = omega (arith, h) in d) rs)

  each_structure : (before : List (Numbered Item)) (a : ℕ) (rs : List Rewards) → ((k : ℕ) → a ≤ k → of_number k before ≡ []) →
      map (λ k. of_number k (before ++ numbered from a rs)) (range_with_len a (length rs)) ≡ earned rs label
  each_structure before a [] none = refl
  each_structure before a (r ∷ rs) none =
      let these = from a r in
      let rest = numbered from (a + 1) rs in
      ap (λ l. map (λ k. of_number k l) (range_with_len a (length (r ∷ rs)))) (sym (append_assoc before these rest))
      ∙ ap₂ (λ x l. x ∷ l)
      (of_append a (before ++ these) rest
      ∙ ap₂ (λ x y. x ++ y)
      (of_append a before these ∙ ap₂ (λ x y. x ++ y) (none a (let d : a ≤ a = omega arith in d)) (of_items a a true (nat_eq-self a) r.items))
      (later a (a + 1) (let d : a < a + 1 = omega arith in d) rs)
      ∙ append-nil (filter wanted r.items))
      (each_structure (before ++ these) (a + 1) rs
      (λ k h. of_append k before these
      ∙ ap₂ (λ x y. x ++ y) (none k (let d : a ≤ k = omega (arith, h) in d)) (of_items k a false (apart k a _ refl (λ e. omega (arith, h, e))) r.items)))

  pub by_structure : (rs : List Rewards) (n : ℕ) (es : List (Numbered Item)) → n ≡ length rs → es ≡ earnings rs label → by_number n es ≡ earned rs label
  by_structure rs n es e f = ap₂ (λ m l. by_number m l) e f ∙ each_structure [] 0 rs (λ k h. refl)
