-- The parts of the judgement of rows never answer Yes.
use Rattle.std.proofs.Common.{◌≡◌, ℕ, ◌+◌, List, [], ◌∷◌, Bool, true, false, not, ◌&&◌, nat_eq, nat_lt, IsTrue, Option, Some, None, if◌then◌else◌, length, map, subst₂, subst, inl, inr}
use Rattle.std.specs.List.{All, list_any}
use Rattle.process_core.specs.Process.{Choice, EquallyOften}
use Rattle.process_core.specs.Ready.{Values, Name}
use Rattle.frac_core.specs.Fraction.{Fraction}
use Rattle.process_core.specs.declared.data.State.{State}
use Rattle.row_check.specs.declared.data.Row.{Row}
use Rattle.row_check.specs.declared.data.Verdict.{Verdict}
use Rattle.row_check.specs.declared.data.Verdict.TheVariants.{Yes, No, Wide}
use Rattle.row_check.specs.declared.data.Why.TheVariants.{Outside, Repeated, Target, FaultyState, Choices}
use Rattle.process_core.specs.Steps.{Process}
use Rattle.row_check.specs.Judging.{Each, Must, Before}
use Rattle.row_check.specs.Merging.{GoodChoice, merged_choice, good_choices, is_bad}
use Rattle.row_check.specs.Rows.{JudgesListed, start_verdict, target_verdict, JudgesChoices, JudgesChoicesAt, JudgesState, file_choices}
use Rattle.row_check.proofs.Judged.{no_yes_excess, each_none}

pub listed_no_yes : (p : Process) (ss : List State) (i : ℕ) (s : State) (v : Verdict) → JudgesListed p ss i s (Some v) → v ≡ Yes → ⊥
listed_no_yes p ss i s v (inl h) y = let e : v ≡ No (Outside i) = h.1 in cc
listed_no_yes p ss i s v (inr h) y = let e : v ≡ No (Repeated i) = h.1.1 in cc

pub start_no_yes : (p : Process) (i : ℕ) (ss : List State) (v : Verdict) → Some v ≡ start_verdict p i ss → v ≡ Yes → ⊥
start_no_yes p i [] v h y = cc
start_no_yes p i (s ∷ ss) v h y = by_tests (start_no_yes p (i + 1) ss v) (p.has_wide_initial s.values) (p.is_initial s.values) h
  where
    by_tests : (Some v ≡ start_verdict p (i + 1) ss → v ≡ Yes → ⊥) → (a b : Bool) → Some v ≡ (if a then Some (Wide i) else (if b then None else start_verdict p (i + 1) ss)) → ⊥
    by_tests ih true b e = cc
    by_tests ih false true e = cc
    by_tests ih false false e = ih e y

target_no_yes : (n k i : ℕ) (rs : List Row) (v : Verdict) → Some v ≡ target_verdict n k i rs → v ≡ Yes → ⊥
target_no_yes n k i [] v h y = cc
target_no_yes n k i (r ∷ rs) v h y = by_test (target_no_yes n k (i + 1) rs v) (nat_eq r.source k && not (nat_lt r.target n)) h
  where
    by_test : (Some v ≡ target_verdict n k (i + 1) rs → v ≡ Yes → ⊥) → (b : Bool) → Some v ≡ (if b then Some (No (Target i)) else target_verdict n k (i + 1) rs) → ⊥
    by_test ih true e = cc
    by_test ih false e = ih e y

choices_no_yes : (k : ℕ) (cs : List (Choice Name Fraction Values)) (fs : List GoodChoice) (v : Verdict) → JudgesChoices k cs fs (Some v) → v ≡ Yes → ⊥
choices_no_yes k cs fs v (inl h) y = let e : v ≡ Wide k = h.1 in cc
choices_no_yes k cs fs v (inr h) y = either h.1
  where
    either : Before (Must (list_any (λ c. is_bad c.outcome) cs ≡ false) (No (FaultyState k))) (Must (EquallyOften (map merged_choice (good_choices cs)) (map merged_choice fs)) (No (Choices k))) (Some v) → ⊥
    either (inl a) = let e : v ≡ No (FaultyState k) = a.1 in cc
    either (inr b) = let e : v ≡ No (Choices k) = b.1.1 in cc

pub state_no_yes : (p : Process) (ss : List State) (rs : List Row) (k : ℕ) (s : State) (v : Verdict) → JudgesState p ss rs k s (Some v) → v ≡ Yes → ⊥
state_no_yes p ss rs k s v (inl h) y = target_no_yes (length ss) k 0 rs v h y
state_no_yes p ss rs k s v (inr h) y = either h.1
  where
    either : JudgesChoicesAt p k s.values (file_choices ss k rs) (Some v) → ⊥
    either (inl a) = no_yes_excess k (p.excess s.values) v a y
    either (inr b) = choices_no_yes k (p.choices s.values) _ v b.1 y

pub listed_states : (p : Process) (ss : List State) → Each (JudgesListed p ss) 0 ss None → All (λ t. IsTrue (p.is_state t.values)) ss
listed_states p ss h = λ i d l. (each_none (JudgesListed p ss) 0 ss h i d l).0

-- the same of the same lists
pub same_listed : (p : Process) (xs ss : List State) (o q : Option Verdict) → xs ≡ ss → o ≡ q → Each (JudgesListed p xs) 0 xs o → Each (JudgesListed p ss) 0 ss q
same_listed p xs ss o q e f h = subst₂ (λ l r. Each (JudgesListed p l) 0 l r) e f h

pub same_states : (p : Process) (xs ss : List State) (qs rs : List Row) (o q : Option Verdict) → xs ≡ ss → qs ≡ rs → o ≡ q → Each (JudgesState p xs qs) 0 xs o → Each (JudgesState p ss rs) 0 ss q
same_states p xs ss qs rs o q e f g h = subst₂ (λ l r. Each (JudgesState p l rs) 0 l r) e g (subst (λ l. Each (JudgesState p xs l) 0 xs o) f h)
