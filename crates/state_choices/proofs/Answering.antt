-- Answers handed on.
use Rattle.std.proofs.Common.{◌≡◌, List, Bool, true, false, Option, Some, None, Result, Ok, Err, refl, sym, ap, ◌∙◌, subst}
use Rattle.std.specs.Result.{IsErrAnd}
use Rattle.process_core.specs.Bounds.{Excess, IsWide, IsTooMany, first_excess}
use Rattle.process_core.specs.Answers.{FailsBy, Answers, only_wide}
use Rattle.process_core.specs.declared.data.StepFail.{StepFail}
use Rattle.process_core.specs.declared.data.StepFail.TheVariants.{Memory, Wide, TooMany}

wide_then : (w : Bool) → only_wide w ≡ Some IsWide → w ≡ true
wide_then true h = refl
wide_then false h = absurd cc

pub narrow_then : (w : Bool) → only_wide w ≡ None → w ≡ false
narrow_then true h = absurd cc
narrow_then false h = refl

never_too_many : (w : Bool) → only_wide w ≡ Some IsTooMany → ⊥
never_too_many true h = cc
never_too_many false h = cc

of_part : (v w : Bool) (f : StepFail) → (v ≡ true → w ≡ true) → FailsBy (only_wide v) f → FailsBy (only_wide w) f
of_part v w (Memory m) h a = tt
of_part v w Wide h a = ap only_wide (h (wide_then v a))
of_part v w TooMany h a = absurd (never_too_many v a)

-- a failure of a part, handed on by `?`, is one of the whole
pub handed_on : {X : Type 0} (P : X → Type 0) (v w : Bool) (f : StepFail) (r : Result X StepFail) → IsErrAnd r (λ g. g ≡ f) → (v ≡ true → w ≡ true) → FailsBy (only_wide v) f → Answers (only_wide w) P r
handed_on P v w f (Ok x) h k a = absurd h
handed_on P v w f (Err g) h k a = subst (FailsBy (only_wide w)) (sym h) (of_part v w f k a)

-- the same answer, said of other lists
pub answer_as : {X V : Type 0} (f : X → List V) (v w : Bool) (xs ys : List V) (r : Result X StepFail) → v ≡ w → xs ≡ ys → Answers (only_wide v) (λ x. f x ≡ xs) r →
    Answers (only_wide w) (λ x. f x ≡ ys) r
answer_as f v w xs ys r d e a = subst (λ l. Answers (only_wide w) (λ x. f x ≡ l) r) e (subst (λ b. Answers (only_wide b) (λ x. f x ≡ xs) r) d a)

-- the bounds of a state, in their order
pub wide_first : (guards many rest : Bool) → guards ≡ true → first_excess guards many rest ≡ Some IsWide
wide_first guards many rest g = ap (λ g. first_excess g many rest) g

pub many_next : (guards many rest : Bool) → guards ≡ false → many ≡ true → first_excess guards many rest ≡ Some IsTooMany
many_next guards many rest g m = ap (λ g. first_excess g many rest) g ∙ ap (λ m. first_excess false m rest) m

pub all_of : (guards many rest : Bool) {e : Option Excess} → guards ≡ false → many ≡ false → only_wide rest ≡ e → first_excess guards many rest ≡ e
all_of guards many rest g m h = ap (λ g. first_excess g many rest) g ∙ ap (λ m. first_excess false m rest) m ∙ h

pub as_whole : {X : Type 0} (P : X → Type 0) (guards many rest : Bool) (f : StepFail) (r : Result X StepFail) → guards ≡ false → many ≡ false → IsErrAnd r (λ g. g ≡ f) → FailsBy (only_wide rest) f →
    Answers (first_excess guards many rest) P r
as_whole P guards many rest f (Ok x) g m h a = absurd h
as_whole P guards many rest f (Err e) g m h a = subst (λ e. Answers (first_excess guards many rest) P (Err e)) (sym h) (by_failure f a)
  where
    by_failure : (f : StepFail) → FailsBy (only_wide rest) f → Answers (first_excess guards many rest) P (Err f)
    by_failure (Memory m) a = tt
    by_failure Wide a = all_of guards many rest g m a
    by_failure TooMany a = absurd (never_too_many rest a)
