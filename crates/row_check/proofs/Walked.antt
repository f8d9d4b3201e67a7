-- One step further along a path.
use Rattle.std.proofs.Common.{◌≡◌, ℕ, suc, ◌+◌, ◌<◌, List, [], ◌∷◌, ◌&&◌, ◌||◌, Bool, true, false, IsTrue, Option, Some, None, length, get_or, drop, refl, sym, ap, ◌∙◌, subst, subst₂, inl, inr, arith}
use Rattle.std.specs.List.{All}
use Rattle.std.proofs.lemmas.List.{drop_more, get_or_read}
use Rattle.std.proofs.lemmas.List.Elements.{All-head, All-tail}
use Rattle.basics.specs.Booleans.{second_true}
use Rattle.frac_core.specs.Fraction.{Fraction}
use Rattle.process_core.specs.Process.{Branch, Outcome, Good, Bad, Choice}
use Rattle.process_core.specs.Distribution.{IsProper}
use Rattle.process_core.specs.Equal.{equal_states, equal_states_is}
use Rattle.process_core.specs.Ready.{Values, Name, same_label}
use Rattle.process_core.specs.declared.data.State.{State}
use Rattle.row_check.specs.declared.data.Verdict.{Verdict}
use Rattle.row_check.specs.declared.data.Verdict.TheVariants.{Yes, No}
use Rattle.row_check.specs.declared.data.Why.TheVariants.{Step}
use Rattle.process_core.specs.Steps.{Process}
use Rattle.process_core.specs.Paths.{is_positive, any_leads_to, leads_to, is_step}
use Rattle.row_check.specs.Paths.{JudgesStep, JudgesSteps}
use Rattle.row_check.proofs.Judged.{passes, no_yes_excess}

-- what stands from place `i` on
pub from_place : {X : Type 0} (xs : List X) (i : ℕ) (x : X) → i < length xs → x ≡ get_or xs i x → drop i xs ≡ x ∷ drop (i + 1) xs
from_place xs i x h e = drop_more xs i x h ∙ ap (λ y. y ∷ drop (i + 1) xs) (sym e)

module _ (p : Process) (k : ℕ) (ss : List State) (ls : List (Option Name)) (s t : State) (l : Option Name) (within : k < length ls) (more : length ss ≡ suc (length ls)) (es : s ≡ get_or ss k s) (et : t ≡ get_or ss (k + 1) t) (el : l ≡ get_or ls k l) where
  states_here : drop k ss ≡ s ∷ t ∷ drop (k + 1 + 1) ss
  states_here = from_place ss k s (omega arith) es ∙ ap (λ r. s ∷ r) (from_place ss (k + 1) t (omega arith) et)

  pub step_passes : JudgesStep p k s.values l t.values None → (o : Option Verdict) → JudgesSteps p (k + 1) (drop (k + 1) ss) (drop (k + 1) ls) o → JudgesSteps p k (drop k ss) (drop k ls) o
  step_passes h o r =
      subst₂ (λ a b. JudgesSteps p k a b o) (sym states_here) (sym (from_place ls k l within el))
      (passes (JudgesStep p k s.values l t.values) (JudgesSteps p (k + 1) (t ∷ drop (k + 1 + 1) ss) (drop (k + 1) ls)) h o
      (subst (λ a. JudgesSteps p (k + 1) a (drop (k + 1) ls) o) (from_place ss (k + 1) t (omega arith) et) r))

  pub step_fails : (v : Verdict) → JudgesStep p k s.values l t.values (Some v) → JudgesSteps p k (drop k ss) (drop k ls) (Some v)
  step_fails v h = subst₂ (λ a b. JudgesSteps p k a b (Some v)) (sym states_here) (sym (from_place ls k l within el)) (inl h)

pub steps_end : (p : Process) (k : ℕ) (ss : List State) (ls : List (Option Name)) → ls ≡ [] → JudgesSteps p k ss ls None
steps_end p k ss ls e = subst (λ l. JudgesSteps p k ss l None) (sym e) (none ss)
  where
    none : (ss : List State) → JudgesSteps p k ss [] None
    none [] = refl
    none (s ∷ []) = refl
    none (s ∷ t ∷ ss) = refl

pub step_not_yes : (p : Process) (k : ℕ) (s : Values) (l : Option Name) (t : Values) (v : Verdict) → JudgesStep p k s l t (Some v) → v ≡ Yes → ⊥
step_not_yes p k s l t v (inl h) y = no_yes_excess k (p.excess s) v h y
step_not_yes p k s l t v (inr h) y = let e : v ≡ No (Step (k + 1)) = h.1.1 in cc

-- ---- a step leads to a state

branch_reaches : (is_state : Values → Bool) (t : Values) (bs : List (Branch Fraction Values)) → All (λ b. IsTrue (is_state b.target)) bs → any_leads_to t bs ≡ true → IsTrue (is_state t)
branch_reaches is_state t [] h e = cc
branch_reaches is_state t (b ∷ bs) h e = by_first (branch_reaches is_state t bs (All-tail (λ c. IsTrue (is_state c.target)) b bs h)) (is_positive b.probability && equal_states t b.target) refl e
  where
    by_first : (any_leads_to t bs ≡ true → IsTrue (is_state t)) → (r : Bool) → r ≡ (is_positive b.probability && equal_states t b.target) → (r || any_leads_to t bs) ≡ true → IsTrue (is_state t)
    by_first ih true q f = subst (λ x. IsTrue (is_state x)) (sym ((equal_states_is t b.target).0 (second_true (is_positive b.probability) _ (sym q)))) (All-head (λ c. IsTrue (is_state c.target)) b bs h)
    by_first ih false q f = ih f

outcome_reaches : (is_state : Values → Bool) (t : Values) (o : Outcome Fraction Values) → IsProper is_state o → leads_to t o ≡ true → IsTrue (is_state t)
outcome_reaches is_state t (Good bs) h e = branch_reaches is_state t bs h.targets e
outcome_reaches is_state t (Bad k) h e = cc

pub step_reaches : (is_state : Values → Bool) (l : Option Name) (t : Values) (cs : List (Choice Name Fraction Values)) → All (λ c. IsProper is_state c.outcome) cs → is_step cs l t ≡ true → IsTrue (is_state t)
step_reaches is_state l t [] h e = cc
step_reaches is_state l t (c ∷ cs) h e = by_first (step_reaches is_state l t cs (All-tail (λ d. IsProper is_state d.outcome) c cs h)) (same_label l c.label && leads_to t c.outcome) refl e
  where
    by_first : (is_step cs l t ≡ true → IsTrue (is_state t)) → (r : Bool) → r ≡ (same_label l c.label && leads_to t c.outcome) → (r || is_step cs l t) ≡ true → IsTrue (is_state t)
    by_first ih true q f = outcome_reaches is_state t c.outcome (All-head (λ d. IsProper is_state d.outcome) c cs h) (second_true (same_label l c.label) _ (sym q))
    by_first ih false q f = ih f

-- the state at place `k` is a state, whatever stands past the end
pub is_here : (is_state : Values → Bool) (ss : List State) (k : ℕ) (t : State) → k < length ss → t ≡ get_or ss k t → IsTrue (is_state t.values) → (d : State) → IsTrue (is_state (get_or ss k d).values)
is_here is_state ss k t h e i d = subst (λ (x : State). IsTrue (is_state x.values)) (get_or_read ss k t h e d) i
