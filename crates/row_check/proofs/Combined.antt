-- What fails of combinations fails of a process at a state, where they are its own there.
use Rattle.std.proofs.Common.{◌≡◌, ℕ, ℤ, Vec, Global, List, Option, Some, None, Result, Ok, Err, IfOk, length, map, refl, sym, ap, ◌∙◌, subst, inl, inr}
use Rattle.std.specs.BTreeMap.{BTreeMap}
use Rattle.std.specs.declared.alloc.AllocError.{AllocError}
use Rattle.frac_core.specs.Fraction.{Fraction}
use Rattle.process_core.specs.Bounds.{Excess, IsWide, IsTooMany, excess}
use Rattle.process_core.specs.Choices.{choices}
use Rattle.process_core.specs.Process.{Choice}
use Rattle.process_core.specs.Ready.{Combination, Name, Values}
use Rattle.process_core.specs.declared.data.State.{State}
use Rattle.process_core.specs.Steps.{Process}
use Rattle.state_choices.specs.Grouped.{AreGroupsAt}
use Rattle.state_choices.specs.Groups.{Group, of_groups}
use Rattle.row_check.specs.declared.data.Verdict.{Verdict}
use Rattle.row_check.specs.declared.data.Row.{Row}
use Rattle.row_check.specs.Index.{IsIndex}
use Rattle.row_check.specs.Judging.{excess_verdict}
use Rattle.row_check.specs.Merging.{GoodChoice, TargetsListed, choice_of_rows}
use Rattle.row_check.specs.Rows.{JudgesChoices, JudgesChoicesAt, runs}
use Rattle.row_check.specs.Walked.{JudgesCombinations}
use Rattle.row_check.proofs.Judged.{passes}

nothing_told : (k : ℕ) (e : Option Excess) → None ≡ excess_verdict k e → e ≡ None
nothing_told k None h = refl
nothing_told k (Some IsWide) h = cc
nothing_told k (Some IsTooMany) h = cc

module _ (k : ℕ) (s : Values) (cs : List Combination) (index : BTreeMap (Vec ℤ Global) ℕ) (own : List Row) where
  -- where nothing passes a bound, the choices tell
  pub narrow_ones : excess cs ≡ None → (shown : List (Choice Name Fraction Values)) → shown ≡ choices s cs → (r : Result (Option Verdict) AllocError) →
      IfOk r (λ o. (ss : List State) → IsIndex index ss → TargetsListed (length ss) own → JudgesChoices k shown (map (choice_of_rows ss) (runs own)) o) →
      IfOk r (λ o. (ss : List State) → IsIndex index ss → TargetsListed (length ss) own → JudgesCombinations k s cs (map (choice_of_rows ss) (runs own)) o)
  narrow_ones n shown e (Ok o) f = λ ss x t.
      passes (λ (q : Option Verdict). q ≡ excess_verdict k (excess cs)) (JudgesChoices k (choices s cs) (map (choice_of_rows ss) (runs own))) (sym (ap (excess_verdict k) n)) o
      (subst (λ l. JudgesChoices k l (map (choice_of_rows ss) (runs own)) o) e (f ss x t))
  narrow_ones n shown e (Err x) f = tt

  pub excessive : (e : Excess) → excess cs ≡ Some e → (v : Verdict) → Some v ≡ excess_verdict k (Some e) →
      (ss : List State) → IsIndex index ss → TargetsListed (length ss) own → JudgesCombinations k s cs (map (choice_of_rows ss) (runs own)) (Some v)
  excessive e h v w = λ ss x t. inl (w ∙ sym (ap (excess_verdict k) h))

module _ (p : Process) (s : Values) (gs : List Group) (h : AreGroupsAt p s gs) (k : ℕ) where
  pub judged_at : (fs : List GoodChoice) (o : Option Verdict) → JudgesCombinations k s (of_groups gs) fs o → JudgesChoicesAt p k s fs o
  judged_at fs None j =
      let e : None ≡ excess_verdict k (p.excess s) = j.0 ∙ ap (excess_verdict k) h.excess in
      (e, subst (λ cs. JudgesChoices k cs fs None) (h.choices (nothing_told k (p.excess s) e)) j.1)
  judged_at fs (Some v) (inl a) = inl (a ∙ ap (excess_verdict k) h.excess)
  judged_at fs (Some v) (inr b) =
      let e : None ≡ excess_verdict k (p.excess s) = b.0 ∙ ap (excess_verdict k) h.excess in
      inr (e, subst (λ cs. JudgesChoices k cs fs (Some v)) (h.choices (nothing_told k (p.excess s) e)) b.1)

  pub all_judged_at : (index : BTreeMap (Vec ℤ Global) ℕ) (own : List Row) (r : Result (Option Verdict) AllocError) →
      IfOk r (λ o. (ss : List State) → IsIndex index ss → TargetsListed (length ss) own → JudgesCombinations k s (of_groups gs) (map (choice_of_rows ss) (runs own)) o) →
      IfOk r (λ o. (ss : List State) → IsIndex index ss → TargetsListed (length ss) own → JudgesChoicesAt p k s (map (choice_of_rows ss) (runs own)) o)
  all_judged_at index own (Ok o) f = λ ss x t. judged_at (map (choice_of_rows ss) (runs own)) o (f ss x t)
  all_judged_at index own (Err e) f = tt
