-- There is one verdict, and what is told of the listed states is a verdict on bounds.
use Rattle.std.proofs.Common.{◌≡◌, ◌≢◌, ◌⊎◌, ℕ, ◌+◌, List, [], ◌∷◌, Bool, true, false, Option, Some, None, refl, sym, ap, ◌∙◌, subst, inl, inr}
use Rattle.frac_core.specs.Fraction.{Fraction, unit}
use Rattle.frac_core.specs.Order.{AtMost}
use Rattle.process_core.specs.Steps.{Process}
use Rattle.process_core.specs.declared.data.State.{State}
use Rattle.row_check.specs.declared.data.Row.{Row}
use Rattle.row_check.specs.declared.data.ReadRows.{ReadRows}
use Rattle.row_check.specs.declared.data.Verdict.{Verdict}
use Rattle.row_check.specs.declared.data.Verdict.TheVariants as V
use Rattle.row_check.specs.Judging.{Must, Before, Each, Judges}
use Rattle.row_check.specs.Rows.{JudgesRows}
use Rattle.row_check.specs.Laws.{RowsOnce}
use Rattle.row_check.proofs.Judged.{AnswersOnce, must_once, told_once, before_once, each_once}
use Rattle.value_bound.specs.declared.data.BoundVerdict.{BoundVerdict}
use Rattle.value_bound.specs.declared.data.BoundVerdict.TheVariants.{Yes, Rows, Undefined, Over, Wide}
use Rattle.value_bound.specs.Bounds.{InTurn, JudgesChoice, JudgesLabel, JudgesState, JudgesStates, JudgesBounds, is_expected_wide, label_at, bound_at}
use Rattle.value_bound.specs.Reaching.{expected, choices_of}
use Rattle.value_bound.specs.Laws.{BoundsOnce}

-- ---- one answer
pub in_turn_once : {X W : Type 0} (J : X → Option W → Type 0) → ((x : X) → AnswersOnce (J x)) → (xs : List X) → AnswersOnce (InTurn J xs)
in_turn_once J f [] = λ o q a b. a ∙ sym b
in_turn_once J f (x ∷ xs) = before_once (J x) (InTurn J xs) (f x) (in_turn_once J f xs)

label_once : (bound : ℕ → Fraction) (i : ℕ) (cs : List (List Row)) (m : Option Bool) → AnswersOnce (JudgesLabel bound i cs m)
label_once bound i cs None = told_once (Some (Undefined i))
label_once bound i cs (Some true) = must_once _ _
label_once bound i cs (Some false) = in_turn_once (JudgesChoice bound i) (λ rs. before_once _ _ (must_once _ _) (must_once _ _)) cs

pub states_once : (p : Process) (r : ReadRows) (label : ℕ) (bs : List Fraction) → AnswersOnce (JudgesStates p r label bs)
states_once p r label bs =
    each_once (JudgesState p label r.rows (bound_at bs)) (λ i s. before_once _ _ (must_once _ _) (label_once (bound_at bs) i _ (label_at p label s.values))) 0 r.states

-- ---- what is told of the states
-- it isn't about the rows, nor Yes
abbrev pub IsOfState : BoundVerdict → Type 0
IsOfState Yes = ⊥
IsOfState (Rows v) = ⊥
IsOfState (Undefined i) = Unit {0}
IsOfState (Over i) = Unit {0}
IsOfState (Wide i) = Unit {0}

abbrev pub TellsState : (Option BoundVerdict → Type 0) → Type 0
TellsState A = (v : BoundVerdict) → A (Some v) → IsOfState v

must_tells : (P : Type 0) (w : BoundVerdict) → IsOfState w → TellsState (Must P w)
must_tells P w k v h = subst IsOfState (sym h.1) k

told_tells : (i : ℕ) → TellsState (λ o. o ≡ Some (Undefined i))
told_tells i v h = let e : v ≡ Undefined i = cc in subst IsOfState (sym e) tt

before_tells : (A B : Option BoundVerdict → Type 0) → TellsState A → TellsState B → TellsState (Before A B)
before_tells A B f g v (inl h) = f v h
before_tells A B f g v (inr h) = g v h.1

in_turn_tells : {X : Type 0} (J : X → Option BoundVerdict → Type 0) → ((x : X) → TellsState (J x)) → (xs : List X) → TellsState (InTurn J xs)
in_turn_tells J f [] = λ v h. absurd (let e : Some v ≡ None = h in cc)
in_turn_tells J f (x ∷ xs) = before_tells (J x) (InTurn J xs) (f x) (in_turn_tells J f xs)

each_tells : {X : Type 0} (J : ℕ → X → Option BoundVerdict → Type 0) → ((k : ℕ) (x : X) → TellsState (J k x)) → (k : ℕ) (xs : List X) → TellsState (Each J k xs)
each_tells J f k [] = λ v h. absurd (let e : Some v ≡ None = h in cc)
each_tells J f k (x ∷ xs) = before_tells (J k x) (Each J (k + 1) xs) (f k x) (each_tells J f (k + 1) xs)

choice_tells : (bound : ℕ → Fraction) (i : ℕ) (rs : List Row) → TellsState (JudgesChoice bound i rs)
choice_tells bound i rs =
    before_tells (Must (is_expected_wide bound rs ≡ false) (Wide i)) (Must (AtMost (expected bound rs) (bound i)) (Over i))
    (must_tells (is_expected_wide bound rs ≡ false) (Wide i) tt) (must_tells (AtMost (expected bound rs) (bound i)) (Over i) tt)

label_tells : (bound : ℕ → Fraction) (i : ℕ) (cs : List (List Row)) (m : Option Bool) → TellsState (JudgesLabel bound i cs m)
label_tells bound i cs None = told_tells i
label_tells bound i cs (Some true) = must_tells (AtMost unit (bound i)) (Over i) tt
label_tells bound i cs (Some false) = in_turn_tells (JudgesChoice bound i) (choice_tells bound i) cs

states_tell : (p : Process) (r : ReadRows) (label : ℕ) (bs : List Fraction) → TellsState (JudgesStates p r label bs)
states_tell p r label bs = each_tells (JudgesState p label r.rows (bound_at bs)) state_tells 0 r.states
  where
    state_tells : (i : ℕ) (s : State) → TellsState (JudgesState p label r.rows (bound_at bs) i s)
    state_tells i s =
        before_tells (Must (p.has_wide_mark s.values ≡ false) (Wide i)) (JudgesLabel (bound_at bs) i (choices_of i r.rows) (label_at p label s.values))
        (must_tells (p.has_wide_mark s.values ≡ false) (Wide i) tt) (label_tells (bound_at bs) i (choices_of i r.rows) (label_at p label s.values))

-- where the rows are right, what is told of the states is the verdict
pub told : (p : Process) (r : ReadRows) (label : ℕ) (bs : List Fraction) → JudgesRows p r None → (v : BoundVerdict) → JudgesStates p r label bs (Some v) → JudgesBounds p r label bs v
told p r label bs h Yes k = absurd (states_tell p r label bs Yes k)
told p r label bs h (Rows u) k = absurd (states_tell p r label bs (Rows u) k)
told p r label bs h (Undefined i) k = (h, k)
told p r label bs h (Over i) k = (h, k)
told p r label bs h (Wide i) k = (h, k)

-- ---- one verdict
-- what the verdict tells of the states, where the rows are right
abbrev pub of_states : BoundVerdict → Option BoundVerdict
of_states Yes = None
of_states (Rows v) = None
of_states (Undefined i) = Some (Undefined i)
of_states (Over i) = Some (Over i)
of_states (Wide i) = Some (Wide i)

-- either it is about the rows, or about the states
abbrev pub Splits : Process → ReadRows → ℕ → List Fraction → BoundVerdict → Type 0
Splits p r label bs v =
    ((u : Verdict) × (v ≡ Rows u) × (u ≢ V.Yes) × Judges (JudgesRows p r) u)
    ⊎ ((w : Option BoundVerdict) × (w ≡ of_states v) × ((u : Verdict) → v ≢ Rows u) × JudgesRows p r None × JudgesStates p r label bs w)

splits : (p : Process) (r : ReadRows) (label : ℕ) (bs : List Fraction) (v : BoundVerdict) → JudgesBounds p r label bs v → Splits p r label bs v
splits p r label bs Yes h = inr (None, refl, λ u e. cc, h.0, h.1)
splits p r label bs (Rows u) h = inl (u, refl, h.0, h.1)
splits p r label bs (Undefined i) h = inr (Some (Undefined i), refl, λ u e. cc, h.0, h.1)
splits p r label bs (Over i) h = inr (Some (Over i), refl, λ u e. cc, h.0, h.1)
splits p r label bs (Wide i) h = inr (Some (Wide i), refl, λ u e. cc, h.0, h.1)

-- verdicts on rows that aren't Yes
verdict_once : (A : Option Verdict → Type 0) → AnswersOnce A → (u w : Verdict) → u ≢ V.Yes → w ≢ V.Yes → Judges A u → Judges A w → u ≡ w
verdict_once A f u w h k a b = let e = f (Some u) (Some w) (some u h a) (some w k b) in cc
  where
    some : (u : Verdict) → u ≢ V.Yes → Judges A u → A (Some u)
    some V.Yes h a = absurd (h refl)
    some (V.No y) h a = a
    some (V.Wide i) h a = a
    some (V.TooMany i) h a = a

not_none : (A : Option Verdict → Type 0) → AnswersOnce A → (u : Verdict) → u ≢ V.Yes → Judges A u → A None → ⊥
not_none A f V.Yes h a b = h refl
not_none A f (V.No y) h a b = let e = f (Some (V.No y)) None a b in cc
not_none A f (V.Wide i) h a b = let e = f (Some (V.Wide i)) None a b in cc
not_none A f (V.TooMany i) h a b = let e = f (Some (V.TooMany i)) None a b in cc

tells_it : (v w : BoundVerdict) → ((u : Verdict) → w ≢ Rows u) → of_states w ≡ Some v → v ≡ w
tells_it v Yes k e = absurd cc
tells_it v (Rows u) k e = absurd (k u refl)
tells_it v (Undefined j) k e = cc
tells_it v (Over j) k e = cc
tells_it v (Wide j) k e = cc

same_states : (v w : BoundVerdict) → ((u : Verdict) → v ≢ Rows u) → ((u : Verdict) → w ≢ Rows u) → of_states v ≡ of_states w → v ≡ w
same_states (Rows u) w h k e = absurd (h u refl)
same_states Yes (Rows u) h k e = absurd (k u refl)
same_states Yes Yes h k e = refl
same_states Yes (Undefined i) h k e = absurd cc
same_states Yes (Over i) h k e = absurd cc
same_states Yes (Wide i) h k e = absurd cc
same_states (Undefined i) w h k e = tells_it (Undefined i) w k (sym e)
same_states (Over i) w h k e = tells_it (Over i) w k (sym e)
same_states (Wide i) w h k e = tells_it (Wide i) w k (sym e)

pub bounds_once : RowsOnce → BoundsOnce
bounds_once rows p r label bs v w h k = by_part (splits p r label bs v h) (splits p r label bs w k)
  where
    by_part : Splits p r label bs v → Splits p r label bs w → v ≡ w
    by_part (inl a) (inl b) = a.1 ∙ ap Rows (verdict_once (JudgesRows p r) (rows p r) a.0 b.0 a.2 b.2 a.3 b.3) ∙ sym b.1
    by_part (inl a) (inr b) = absurd (not_none (JudgesRows p r) (rows p r) a.0 a.2 a.3 b.3)
    by_part (inr a) (inl b) = absurd (not_none (JudgesRows p r) (rows p r) b.0 b.2 b.3 a.3)
    by_part (inr a) (inr b) = same_states v w a.2 b.2 (sym a.1 ∙ states_once p r label bs a.0 b.0 a.4 b.4 ∙ b.1)
