-- On the same files there is one answer.
use Rattle.std.proofs.Common.{◌≡◌, ℕ, List, Ok, Err, length, refl, sym, ap, ap₂, subst, ◌∙◌}
use Rattle.basics.specs.Results.{err_same, not_ok, ok_same}
use Rattle.bridge_io.specs.declared.reason.Fault.{Fault}
use Rattle.frac_core.specs.Fraction.{Fraction}
use Rattle.process_core.specs.Steps.{Process}
use Rattle.process_core.specs.declared.data.State.{State}
use Rattle.row_check.specs.declared.data.ReadRows.{ReadRows}
use Rattle.row_check.specs.Forms.{AreRowFiles, AreBounds, ReadsBounds, ReadsRowsOf, ReadsStates, IsStatesBreak, IsRowsBreak}
use Rattle.row_check.specs.Laws.{BoundsReadOnce, RowsReadOnce, StatesReadOnce}
use Rattle.value_bound.specs.declared.data.BoundVerdict.{BoundVerdict}
use Rattle.value_bound.specs.declared.data.BoundRefused.TheVariants.{Memory, States, Rows, Bounds}
use Rattle.value_bound.specs.Bounds.{JudgesBounds}
use Rattle.value_bound.specs.Checks.{ChecksBound, IsBoundsBreak}
use Rattle.value_bound.specs.Laws.{BoundsOnce, OneAnswer}

same_fault : (f g : Fault) → f.reason ≡ g.reason → f.at ≡ g.at → f ≡ g
same_fault f g r a = ap₂ (λ x y. record { reason = x; at = y }) r a

module _ (one_states : StatesReadOnce) (one_rows : RowsReadOnce) (one_bounds : BoundsReadOnce) (judged_once : BoundsOnce) where
  module _ (p : Process) (states rows : List ℕ) where
    same_states : (a b : List State) → ReadsStates p states (Ok a) → ReadsStates p states (Ok b) → b ≡ a
    same_states a b h k = ok_same b a (one_states p states (Ok b) (Ok a) k h)

    same_rows : (a b : ReadRows) → AreRowFiles p states rows a → AreRowFiles p states rows b → b ≡ a
    same_rows a b h k =
        ok_same b a (one_rows a.states rows (Ok b) (Ok a) (subst (λ ss. ReadsRowsOf ss rows (Ok b)) (same_states a.states b.states h.0 k.0) k.1) h.1)

    -- a file that is read has no break
    states_or_break : (a : List State) (at : ℕ) → ReadsStates p states (Ok a) → IsStatesBreak p states at → ⊥
    states_or_break a at h k = not_ok a at (one_states p states (Ok a) (Err at) h k)

    rows_or_break : (a : ReadRows) (at : ℕ) → AreRowFiles p states rows a → IsRowsBreak p states rows at → ⊥
    rows_or_break a at h (ss, s, r) =
        not_ok a at (one_rows a.states rows (Ok a) (Err at) h.1 (subst (λ x. ReadsRowsOf x rows (Err at)) (same_states a.states ss h.0 s) r))

    module _ (label : ℕ) (bounds : List ℕ) where
      bounds_or_break : (a : ReadRows) (bs : List Fraction) (at : ℕ) → AreRowFiles p states rows a → AreBounds (length a.states) bounds bs → IsBoundsBreak p states rows bounds at → ⊥
      bounds_or_break a bs at h i (b, k, c) =
          not_ok bs at (one_bounds (length a.states) bounds (Ok bs) (Err at) i (subst (λ (x : ReadRows). ReadsBounds (length x.states) bounds (Err at)) (same_rows a b h k) c))

      one_verdict : (v w : BoundVerdict) → ChecksBound p states rows label bounds (Ok v) → ChecksBound p states rows label bounds (Ok w) → v ≡ w
      one_verdict v w (a, bs, h, i, j) (b, cs, k, l, m) =
          let read : b ≡ a = same_rows a b h k in
          let values : cs ≡ bs = ok_same cs bs (one_bounds (length a.states) bounds (Ok cs) (Ok bs) (subst (λ (x : ReadRows). AreBounds (length x.states) bounds cs) read l) i) in
          judged_once p a label bs v w j (subst (λ xs. JudgesBounds p a label xs w) values (subst (λ x. JudgesBounds p x label cs w) read m))

      one_states_break : (f g : Fault) → ChecksBound p states rows label bounds (Err (States f)) → ChecksBound p states rows label bounds (Err (States g)) → f ≡ g
      one_states_break f g h k = same_fault f g (h.0 ∙ sym k.0) (err_same f.at g.at (one_states p states (Err f.at) (Err g.at) h.1 k.1))

      one_rows_break : (f g : Fault) → ChecksBound p states rows label bounds (Err (Rows f)) → ChecksBound p states rows label bounds (Err (Rows g)) → f ≡ g
      one_rows_break f g (h, (ss, s, r)) (k, (ts, t, q)) =
          same_fault f g (h ∙ sym k)
          (err_same f.at g.at (one_rows ss rows (Err f.at) (Err g.at) r (subst (λ x. ReadsRowsOf x rows (Err g.at)) (same_states ss ts s t) q)))

      one_bounds_break : (f g : Fault) → ChecksBound p states rows label bounds (Err (Bounds f)) → ChecksBound p states rows label bounds (Err (Bounds g)) → f ≡ g
      one_bounds_break f g (h, (a, i, r)) (k, (b, j, q)) =
          same_fault f g (h ∙ sym k)
          (err_same f.at g.at (one_bounds (length a.states) bounds (Err f.at) (Err g.at) r (subst (λ (x : ReadRows). ReadsBounds (length x.states) bounds (Err g.at)) (same_rows a b i j) q)))

  pub one_answer : OneAnswer
  one_answer p states rows label bounds (Ok v) (Ok w) m n h k = ap Ok (one_verdict p states rows label bounds v w h k)
  one_answer p states rows label bounds (Ok v) (Err (States f)) m n (a, bs, h, i, j) k = absurd (states_or_break p states rows a.states f.at h.0 k.1)
  one_answer p states rows label bounds (Ok v) (Err (Rows f)) m n (a, bs, h, i, j) k = absurd (rows_or_break p states rows a f.at h k.1)
  one_answer p states rows label bounds (Ok v) (Err (Bounds f)) m n (a, bs, h, i, j) k = absurd (bounds_or_break p states rows label bounds a bs f.at h i k.1)
  one_answer p states rows label bounds (Err (States f)) (Ok w) m n h (a, bs, k, i, j) = absurd (states_or_break p states rows a.states f.at k.0 h.1)
  one_answer p states rows label bounds (Err (States f)) (Err (States g)) m n h k = ap (λ x. Err (States x)) (one_states_break p states rows label bounds f g h k)
  one_answer p states rows label bounds (Err (States f)) (Err (Rows g)) m n h (k, (ss, s, r)) = absurd (states_or_break p states rows ss f.at s h.1)
  one_answer p states rows label bounds (Err (States f)) (Err (Bounds g)) m n h (k, (a, i, r)) = absurd (states_or_break p states rows a.states f.at i.0 h.1)
  one_answer p states rows label bounds (Err (Rows f)) (Ok w) m n h (a, bs, k, i, j) = absurd (rows_or_break p states rows a f.at k h.1)
  one_answer p states rows label bounds (Err (Rows f)) (Err (States g)) m n (h, (ss, s, r)) k = absurd (states_or_break p states rows ss g.at s k.1)
  one_answer p states rows label bounds (Err (Rows f)) (Err (Rows g)) m n h k = ap (λ x. Err (Rows x)) (one_rows_break p states rows label bounds f g h k)
  one_answer p states rows label bounds (Err (Rows f)) (Err (Bounds g)) m n h (k, (a, i, r)) = absurd (rows_or_break p states rows a f.at i h.1)
  one_answer p states rows label bounds (Err (Bounds f)) (Ok w) m n h (a, bs, k, i, j) = absurd (bounds_or_break p states rows label bounds a bs f.at k i h.1)
  one_answer p states rows label bounds (Err (Bounds f)) (Err (States g)) m n (h, (a, i, r)) k = absurd (states_or_break p states rows a.states g.at i.0 k.1)
  one_answer p states rows label bounds (Err (Bounds f)) (Err (Rows g)) m n (h, (a, i, r)) k = absurd (rows_or_break p states rows a g.at i k.1)
  one_answer p states rows label bounds (Err (Bounds f)) (Err (Bounds g)) m n h k = ap (λ x. Err (Bounds x)) (one_bounds_break p states rows label bounds f g h k)
  one_answer p states rows label bounds (Err (Memory e)) b m n h k = absurd (m e refl)
  one_answer p states rows label bounds a (Err (Memory e)) m n h k = absurd (n e refl)
