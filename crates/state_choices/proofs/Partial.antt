-- Sums and products of fractions from the left, one number more, and whether one on the way is wide.
use Rattle.std.proofs.Common.{◌≡◌, List, [], ◌∷◌, Bool, true, false, ◌||◌, Ok, Err, refl, sym, ap, ◌∙◌, if◌then◌else◌}
use Rattle.std.specs.List.{list_any}
use Rattle.frac_core.specs.Fraction.{Fraction, plus, times, nought, unit, is_wide}
use Rattle.frac_core.specs.Results.{narrow}
use Rattle.frac_core.specs.declared.fraction.FracFail.{FracFail}
use Rattle.frac_core.specs.Sums.{total, product}
use Rattle.frac_core.specs.Laws.{plus_assoc, plus_nought, nought_plus, times_assoc, times_unit, unit_times}
use Rattle.process_core.specs.Bounds.{partial_sums, partial_products}

narrow_err : (x : Fraction) (e : FracFail) → narrow x ≡ Err e → is_wide x ≡ true
narrow_err x f h = by_test (is_wide x) refl h
  where
    by_test : (b : Bool) → is_wide x ≡ b → (if b then Err FracFail.Wide else Ok x) ≡ Err f → is_wide x ≡ true
    by_test true e k = e
    by_test false e k = absurd cc

pub record IsRunning (op : Fraction → Fraction → Fraction) (all : List Fraction → Fraction) (partials : Fraction → List Fraction → List Fraction) (start : Fraction) : Type 0 where
  pub assoc : (a b c : Fraction) → op (op a b) c ≡ op a (op b c)
  pub first : (x : Fraction) → op start x ≡ x
  pub more : (x : Fraction) (xs : List Fraction) → all (x ∷ xs) ≡ op x (all xs)
  pub last : (x : Fraction) → op x (all []) ≡ x
  pub on_the_way : (a x : Fraction) (xs : List Fraction) → partials a (x ∷ xs) ≡ op a x ∷ partials (op a x) xs
  pub none : (a : Fraction) → partials a [] ≡ []

pub sums_run : IsRunning plus total partial_sums nought
sums_run = record {
  assoc = plus_assoc;
  first = nought_plus;
  more = λ x xs. refl;
  last = plus_nought;
  on_the_way = λ a x xs. refl;
  none = λ a. refl;
}

pub products_run : IsRunning times product partial_products unit
products_run = record {
  assoc = times_assoc;
  first = unit_times;
  more = λ x xs. refl;
  last = times_unit;
  on_the_way = λ a x xs. refl;
  none = λ a. refl;
}

narrow_ok : (x t : Fraction) → narrow x ≡ Ok t → (is_wide x ≡ false) × (t ≡ x)
narrow_ok x t h = by_test (is_wide x) refl h
  where
    by_test : (b : Bool) → is_wide x ≡ b → (if b then Err FracFail.Wide else Ok x) ≡ Ok t → (is_wide x ≡ false) × (t ≡ x)
    by_test true e k = absurd cc
    by_test false e k = (e, cc)

module _ {op : Fraction → Fraction → Fraction} {all : List Fraction → Fraction} {partials : Fraction → List Fraction → List Fraction} {start : Fraction} (rules : IsRunning op all partials start) (xs : List Fraction) where
  -- the result of the numbers before the rest, and none on the way was wide
  pub record IsSoFar (rest : List Fraction) (s : Fraction) : Type 0 where
    pub value : op s (all rest) ≡ all xs
    pub wide : list_any is_wide (partials s rest) ≡ list_any is_wide (partials start xs)

  pub so_far_none : (s : Fraction) → s ≡ start → IsSoFar xs s
  so_far_none s e = record {
    value = ap (λ s. op s (all xs)) e ∙ rules.first (all xs);
    wide = ap (λ s. list_any is_wide (partials s xs)) e;
  }

  way : (rest left : List Fraction) (x s : Fraction) → rest ≡ x ∷ left → IsSoFar rest s → (is_wide (op s x) || list_any is_wide (partials (op s x) left)) ≡ list_any is_wide (partials start xs)
  way rest left x s e so_far = ap (list_any is_wide) (sym (rules.on_the_way s x left)) ∙ ap (λ l. list_any is_wide (partials s l)) (sym e) ∙ so_far.wide

  pub so_far_more : (rest left : List Fraction) (x s t : Fraction) → rest ≡ x ∷ left → narrow (op s x) ≡ Ok t → IsSoFar rest s → IsSoFar left t
  so_far_more rest left x s t e ok so_far =
      let n = narrow_ok (op s x) t ok in
      record {
        value =
            ap (λ a. op a (all left)) n.1
            ∙ rules.assoc s x (all left)
            ∙ ap (op s) (sym (rules.more x left))
            ∙ ap (λ l. op s (all l)) (sym e)
            ∙ so_far.value;
        wide =
            ap (λ a. list_any is_wide (partials a left)) n.1
            ∙ ap (λ b. b || list_any is_wide (partials (op s x) left)) (sym n.0)
            ∙ way rest left x s e so_far;
      }

  pub so_far_wide : (rest left : List Fraction) (x s : Fraction) (g : FracFail) → rest ≡ x ∷ left → narrow (op s x) ≡ Err g → IsSoFar rest s → list_any is_wide (partials start xs) ≡ true
  so_far_wide rest left x s g e err so_far =
      sym (way rest left x s e so_far)
      ∙ ap (λ b. b || list_any is_wide (partials (op s x) left)) (narrow_err (op s x) g err)

  pub so_far_all : (rest : List Fraction) (s : Fraction) → rest ≡ [] → IsSoFar rest s → (list_any is_wide (partials start xs) ≡ false) × (s ≡ all xs)
  so_far_all rest s e so_far = (
    sym so_far.wide ∙ ap (λ l. list_any is_wide (partials s l)) e ∙ ap (list_any is_wide) (rules.none s),
    sym (rules.last s) ∙ ap (λ l. op s (all l)) (sym e) ∙ so_far.value,
  )
