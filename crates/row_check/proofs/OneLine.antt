-- A text without a line feed, and one behind it, are a line.
use Rattle.std.proofs.Common.{◌≡◌, ℕ, ◌+◌, nat_eq, List, [], ◌∷◌, ◌++◌, length, if◌then◌else◌, sym, ap, ◌∙◌, append-nil, append_assoc}
use Rattle.basics.specs.Booleans.{first_false, second_false}
use Rattle.basics.specs.Numbers.{nat_eq_comm}
use Rattle.process_texts.proofs.StateTexts.{Lacks}
use Rattle.row_check.specs.Lines.{lines_from}

pub one_line : (at : ℕ) (line w rest : List ℕ) → Lacks 10 w → lines_from at line (w ++ 10 ∷ rest) ≡ record { at = at; text = line ++ w } ∷ lines_from (at + length (line ++ w) + 1) [] rest
one_line at line [] rest h = ap (λ t. record { at = at; text = t } ∷ lines_from (at + length t + 1) [] rest) (sym (append-nil line))
one_line at line (b ∷ w) rest h =
    ap (λ c. if c then record { at = at; text = line } ∷ lines_from (at + length line + 1) [] (w ++ 10 ∷ rest) else lines_from at (line ++ b ∷ []) (w ++ 10 ∷ rest))
    (nat_eq_comm b 10 ∙ first_false (nat_eq 10 b) _ h)
    ∙ one_line at (line ++ b ∷ []) w rest (second_false (nat_eq 10 b) _ h)
    ∙ ap (λ t. record { at = at; text = t } ∷ lines_from (at + length t + 1) [] rest) (append_assoc line (b ∷ []) w)

-- a line and those behind it
pub line_then : (L S R : List ℕ) → (L ++ (32 ∷ (S ++ 10 ∷ []))) ++ R ≡ (L ++ 32 ∷ S) ++ 10 ∷ R
line_then L S R =
    append_assoc L (32 ∷ (S ++ 10 ∷ [])) R
    ∙ ap (λ t. L ++ (32 ∷ t)) (append_assoc S (10 ∷ []) R)
    ∙ sym (append_assoc L (32 ∷ S) (10 ∷ R))
