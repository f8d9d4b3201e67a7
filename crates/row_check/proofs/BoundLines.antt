-- Lines of bounds, part by part.
use Rattle.std.proofs.Common.{◌≡◌, ℕ, ◌<◌, ◌≤◌, List, ◌∷◌, ◌++◌, false, nat_eq, Option, Some, None, Ok, length, sym, ◌∙◌, subst, arith}
use Rattle.std.specs.List.{list_any}
use Rattle.frac_core.specs.Fraction.{Fraction}
use Rattle.row_check.specs.Lines.{ReadsText, lines, AreRead}
use Rattle.row_check.specs.Texts.{IsNumber, IsProbability}
use Rattle.row_check.specs.Forms.{IsBoundLine, ReadsBounds}
use Rattle.row_check.proofs.Parts.{front_same, lacks_mark, number_no_colon}
use Rattle.row_check.proofs.Formed.{bounds_few}

module _ (n : ℕ) (before : List Fraction) (line : List ℕ) where
  pub too_many : n ≤ length before → (x : Fraction) → ¬ IsBoundLine n before line x
  too_many l x h = let w = h.wanted in absurd (omega arith)

  pub no_colon : list_any (nat_eq 58) line ≡ false → (x : Fraction) → ¬ IsBoundLine n before line x
  no_colon l x h = lacks_mark 58 line h.number h.value l h.parts

  module _ (number value : List ℕ) (e : line ≡ number ++ 58 ∷ value) (l : list_any (nat_eq 58) number ≡ false) where
    bound_parts : (x : Fraction) (h : IsBoundLine n before line x) → (h.number ≡ number) × (h.value ≡ value)
    bound_parts x h = front_same 58 h.number number h.value value (number_no_colon h.number (length before) h.counts) l (sym h.parts ∙ e)

    pub other_bound : ¬ IsNumber number (length before) → (x : Fraction) → ¬ IsBoundLine n before line x
    other_bound k x h = k (subst (λ t. IsNumber t (length before)) (bound_parts x h).0 h.counts)

    pub bound_line : IsNumber number (length before) → length before < n → (o : Option Fraction) → ReadsText (IsProbability value) o → ReadsText (IsBoundLine n before line) o
    bound_line i w (Some x) h = record { number = number; value = value; parts = e; counts = i; wanted = w; value_is = h }
    bound_line i w None h = λ x k. h x (subst (λ t. IsProbability t x) (bound_parts x k).1 k.value_is)

-- where all lines hold bounds, there are enough of them or too few
pub enough : (n : ℕ) (bytes : List ℕ) (xs : List Fraction) → AreRead (IsBoundLine n) (lines bytes) (Ok xs) → n ≤ length xs → ReadsBounds n bytes (Ok xs)
enough n bytes xs h l = (h, let m = bounds_few n (lines bytes) xs h in omega arith)
