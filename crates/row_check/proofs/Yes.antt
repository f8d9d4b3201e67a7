-- What it means that nothing fails.
use Rattle.std.proofs.Common.{◌↔◌, ◌≡◌, ◌≢◌, ℕ, zero, suc, ◌+◌, ◌<◌, List, [], ◌∷◌, Bool, true, false, not, ◌&&◌, ◌||◌, nat_eq, nat_lt, IsTrue, Option, Some, None, if◌then◌else◌, length, get_or, take, refl, sym, ap, ◌∙◌, arith, eq-eqb, lt-ltb, ltb-true, length-take}
use Rattle.std.specs.List.{All, list_any}
use Rattle.std.proofs.lemmas.List.{get_or-take}
use Rattle.std.proofs.lemmas.List.Elements.{All-head, All-tail, All-cons, All-nil}
use Rattle.std.proofs.lemmas.Bool.{false_from_ne_true}
use Rattle.process_core.specs.Bounds.{Excess, IsWide, IsTooMany}
use Rattle.process_core.specs.Ready.{Values, Name}
use Rattle.process_core.specs.Equal.{equal_states, equal_states_is}
use Rattle.process_core.specs.declared.data.State.{State}
use Rattle.row_check.specs.declared.data.Row.{Row}
use Rattle.row_check.specs.declared.data.ReadPath.{ReadPath}
use Rattle.row_check.specs.declared.data.ReadRows.{ReadRows}
use Rattle.row_check.specs.declared.data.Verdict.{Verdict}
use Rattle.row_check.specs.declared.data.Verdict.TheVariants.{Yes, No, Wide, TooMany}
use Rattle.row_check.specs.declared.data.Why.TheVariants.{Target, Step}
use Rattle.process_core.specs.Steps.{Process}
use Rattle.row_check.specs.Judging.{Judges, excess_verdict}
use Rattle.row_check.specs.Index.{stands_in, values_at}
use Rattle.row_check.specs.Merging.{TargetsListed}
use Rattle.process_core.specs.Paths.{is_step, IsPathFrom}
use Rattle.row_check.specs.Paths.{read_steps, IsPathAlong, StartsNarrow, StepsNarrow, JudgesStart, JudgesSteps, JudgesPath}
use Rattle.row_check.specs.Rows.{AreReadRows, AreRows, AreNarrowRows, has_wide_start, JudgesListed, JudgesState, JudgesRows, start_verdict, target_verdict}
use Rattle.row_check.specs.Laws.{PathYes, RowsYes, PathIsYes, RowsAreYes}
use Rattle.row_check.proofs.Judged.{all_pass, none_fails, AnswersOnce, must_once, told_once, before_once, each_once}

no_excess : (k : ℕ) (e : Option Excess) → None ≡ excess_verdict k e → e ≡ None
no_excess k None h = refl
no_excess k (Some IsWide) h = cc
no_excess k (Some IsTooMany) h = cc

excess_none : (k : ℕ) (e : Option Excess) → e ≡ None → None ≡ excess_verdict k e
excess_none k e h = sym (ap (excess_verdict k) h)

-- ---- paths
steps_yes : (p : Process) (k : ℕ) (s : State) (ss : List State) (ls : List (Option Name)) → JudgesSteps p k (s ∷ ss) ls None → IsPathFrom p s.values (read_steps ss ls) × StepsNarrow p (s ∷ ss) ls
steps_yes p k s [] ls h = (tt, tt)
steps_yes p k s (t ∷ ss) [] h = (tt, tt)
steps_yes p k s (t ∷ ss) (l ∷ ls) h =
    let r = steps_yes p (k + 1) t ss ls h.1 in
    ((h.0.1, r.0), (no_excess k (p.excess s.values) h.0.0, r.1))

yes_steps : (p : Process) (k : ℕ) (s : State) (ss : List State) (ls : List (Option Name)) → IsPathFrom p s.values (read_steps ss ls) → StepsNarrow p (s ∷ ss) ls → JudgesSteps p k (s ∷ ss) ls None
yes_steps p k s [] ls h n = refl
yes_steps p k s (t ∷ ss) [] h n = refl
yes_steps p k s (t ∷ ss) (l ∷ ls) h n = ((excess_none k (p.excess s.values) n.0, h.0), yes_steps p (k + 1) t ss ls h.1 n.1)

along_yes : (p : Process) (ss : List State) (ls : List (Option Name)) → JudgesStart p ss None → JudgesSteps p 0 ss ls None → IsPathAlong p ss ls × StartsNarrow p ss × StepsNarrow p ss ls
along_yes p [] ls h k = absurd h
along_yes p (s ∷ ss) ls h k = let r = steps_yes p 0 s ss ls k in ((h.1, r.0), h.0, r.1)

yes_along : (p : Process) (ss : List State) (ls : List (Option Name)) → IsPathAlong p ss ls → StartsNarrow p ss → StepsNarrow p ss ls → JudgesStart p ss None × JudgesSteps p 0 ss ls None
yes_along p [] ls h n m = absurd h
yes_along p (s ∷ ss) ls h n m = ((n, h.0), yes_steps p 0 s ss ls h.1 m)

pub path_yes : PathYes
path_yes p path = (
  λ h. let r = along_yes p path.states path.labels h.0 h.1 in (r.0, record { start = r.1; steps = r.2 }),
  λ h. yes_along p path.states path.labels h.0 h.1.start h.1.steps,
)

-- ---- rows
stands_at : (t : Values) (ss : List State) (i : ℕ) (d : State) → i < length ss → t ≡ (get_or ss i d).values → stands_in t ss ≡ true
stands_at t [] i d l e = absurd (omega arith)
stands_at t (s ∷ ss) zero d l e = ap (λ b. b || stands_in t ss) ((equal_states_is t s.values).1 e)
stands_at t (s ∷ ss) (suc i) d l e = ap (λ b. equal_states t s.values || b) (stands_at t ss i d (omega arith) e) ∙ or_true (equal_states t s.values)
  where
    or_true : (b : Bool) → (b || true) ≡ true
    or_true true = refl
    or_true false = refl

stands_found : (t : Values) (ss : List State) (d : State) → stands_in t ss ≡ true → (i : ℕ) × (i < length ss) × ((get_or ss i d).values ≡ t)
stands_found t [] d h = cc
stands_found t (s ∷ ss) d h = by_test (stands_found t ss d) (equal_states t s.values) refl h
  where
    by_test : (stands_in t ss ≡ true → (i : ℕ) × (i < length ss) × ((get_or ss i d).values ≡ t)) → (b : Bool) → b ≡ equal_states t s.values → (b || stands_in t ss) ≡ true → (i : ℕ) × (i < length (s ∷ ss)) × ((get_or (s ∷ ss) i d).values ≡ t)
    by_test ih true e k = (0, omega arith, sym ((equal_states_is t s.values).0 (sym e)))
    by_test ih false e k = let r = ih k in (suc r.0, omega arith, r.2)

starts_yes : (p : Process) (i : ℕ) (ss : List State) → None ≡ start_verdict p i ss → (list_any (λ s. p.is_initial s.values) ss ≡ true) × (has_wide_start p ss ≡ false)
starts_yes p i [] h = cc
starts_yes p i (s ∷ ss) h = by_tests (starts_yes p (i + 1) ss) (p.has_wide_initial s.values) (p.is_initial s.values) h
  where
    by_tests : (None ≡ start_verdict p (i + 1) ss → (list_any (λ s. p.is_initial s.values) ss ≡ true) × (has_wide_start p ss ≡ false)) → (a b : Bool) →
        None ≡ (if a then Some (Wide i) else (if b then None else start_verdict p (i + 1) ss)) → ((b || list_any (λ s. p.is_initial s.values) ss) ≡ true) × ((a || (not b && has_wide_start p ss)) ≡ false)
    by_tests ih true b e = cc
    by_tests ih false true e = (refl, refl)
    by_tests ih false false e = ih e

yes_starts : (p : Process) (i : ℕ) (ss : List State) → list_any (λ s. p.is_initial s.values) ss ≡ true → has_wide_start p ss ≡ false → None ≡ start_verdict p i ss
yes_starts p i [] h n = cc
yes_starts p i (s ∷ ss) h n = by_tests (yes_starts p (i + 1) ss) (p.has_wide_initial s.values) (p.is_initial s.values) h n
  where
    by_tests : (list_any (λ s. p.is_initial s.values) ss ≡ true → has_wide_start p ss ≡ false → None ≡ start_verdict p (i + 1) ss) → (a b : Bool) →
        (b || list_any (λ s. p.is_initial s.values) ss) ≡ true → (a || (not b && has_wide_start p ss)) ≡ false → None ≡ (if a then Some (Wide i) else (if b then None else start_verdict p (i + 1) ss))
    by_tests ih true b e f = cc
    by_tests ih false true e f = refl
    by_tests ih false false e f = ih e f

targets_yes : (n k i : ℕ) (rs : List Row) → None ≡ target_verdict n k i rs → All (λ r. r.source ≡ k → r.target < n) rs
targets_yes n k i [] h = All-nil (λ (r : Row). r.source ≡ k → r.target < n)
targets_yes n k i (r ∷ rs) h = by_tests (targets_yes n k (i + 1) rs) (nat_eq r.source k) (nat_lt r.target n) refl refl h
  where
    by_tests : (None ≡ target_verdict n k (i + 1) rs → All (λ r. r.source ≡ k → r.target < n) rs) → (a b : Bool) → a ≡ nat_eq r.source k → b ≡ nat_lt r.target n →
        None ≡ (if a && not b then Some (No (Target i)) else target_verdict n k (i + 1) rs) → All (λ r. r.source ≡ k → r.target < n) (r ∷ rs)
    by_tests ih true true e f g = All-cons (λ (r : Row). r.source ≡ k → r.target < n) r rs (λ x. ltb-true r.target n (sym f)) (ih g)
    by_tests ih true false e f g = cc
    by_tests ih false b e f g = All-cons (λ (r : Row). r.source ≡ k → r.target < n) r rs (λ x. absurd (let y = eq-eqb r.source k x in cc)) (ih g)

yes_targets : (n k i : ℕ) (rs : List Row) → TargetsListed n rs → None ≡ target_verdict n k i rs
yes_targets n k i [] h = refl
yes_targets n k i (r ∷ rs) h =
    yes_targets n k (i + 1) rs (All-tail (λ (x : Row). x.target < n) r rs h)
    ∙ sym (ap (λ b. if nat_eq r.source k && not b then Some (No (Target i)) else target_verdict n k (i + 1) rs) (lt-ltb r.target n (All-head (λ (x : Row). x.target < n) r rs h)) ∙ by_test (nat_eq r.source k))
  where
    by_test : (b : Bool) → (if b && false then Some (No (Target i)) else target_verdict n k (i + 1) rs) ≡ target_verdict n k (i + 1) rs
    by_test true = refl
    by_test false = refl

module _ (p : Process) (r : ReadRows) (w : AreReadRows r) where
  module _ (h : JudgesRows p r None) where
    listed : (i : ℕ) → i < length r.states → JudgesListed p r.states i (get_or r.states i (record { values = [] })) None
    listed i l = all_pass (JudgesListed p r.states) r.states h.0 i (record { values = [] }) l

    judged : (k : ℕ) → k < length r.states → JudgesState p r.states r.rows k (get_or r.states k (record { values = [] })) None
    judged k l = all_pass (JudgesState p r.states r.rows) r.states h.1.1.0 k (record { values = [] }) l

    apart : (i j : ℕ) → i < j → j < length r.states → values_at r.states i ≢ values_at r.states j
    apart i j a b e =
        let new = (listed j b).1 in
        let in_front : i < length (take j r.states) = let q = length-take j r.states in omega arith in
        let old = stands_at (values_at r.states j) (take j r.states) i (record { values = [] }) in_front (sym e ∙ ap (λ (s : State). s.values) (sym (get_or-take j r.states i (record { values = [] }) a))) in
        absurd cc

    target_listed : (i : ℕ) (d : Row) → i < length r.rows → (get_or r.rows i d).target < length r.states
    target_listed i d l =
        let source = w.sources i d l in
        targets_yes (length r.states) (get_or r.rows i d).source 0 r.rows (judged (get_or r.rows i d).source source).0 i d l refl

    rows_are : AreRows p r
    rows_are = record {
      states = λ i l. (listed i l).0;
      distinct = apart;
      initial = (starts_yes p 0 r.states h.1.0).0;
      targets = target_listed;
      choices = λ k l. record { good = (judged k l).1.1.1.0; same = (judged k l).1.1.1.1 };
      counts = h.1.1.1;
    }

    rows_narrow : AreNarrowRows p r
    rows_narrow = record {
      starts = (starts_yes p 0 r.states h.1.0).1;
      excess = λ k l. no_excess k (p.excess (values_at r.states k)) (judged k l).1.0;
      merging = λ k l. (judged k l).1.1.0;
    }

  module _ (a : AreRows p r) (n : AreNarrowRows p r) where
    new_state : (j : ℕ) → j < length r.states → stands_in (values_at r.states j) (take j r.states) ≡ false
    new_state j l = false_from_ne_true _ (λ e.
        let f = stands_found (values_at r.states j) (take j r.states) (record { values = [] }) e in
        let i = f.0 in
        let in_front : i < j = let q = length-take j r.states in let g = f.1 in omega arith in
        a.distinct i j in_front l (ap (λ (s : State). s.values) (sym (get_or-take j r.states i (record { values = [] }) in_front)) ∙ f.2))

    rows_judged : JudgesRows p r None
    rows_judged = (
      none_fails (JudgesListed p r.states) r.states (record { values = [] }) (λ i l. (a.states i l, new_state i l)),
      (
        yes_starts p 0 r.states a.initial n.starts,
        (
          none_fails (JudgesState p r.states r.rows) r.states (record { values = [] }) (λ k l. (
            yes_targets (length r.states) k 0 r.rows a.targets,
            (
              excess_none k (p.excess (values_at r.states k)) (n.excess k l),
              (n.merging k l, ((a.choices k l).good, (a.choices k l).same)),
            ),
          )),
          a.counts,
        ),
      ),
    )

pub rows_yes : RowsYes
rows_yes p r w = (λ h. (rows_are p r w h, rows_narrow p r w h), λ h. rows_judged p r w h.0 h.1)

-- ---- one verdict
start_once : (p : Process) (ss : List State) → AnswersOnce (JudgesStart p ss)
start_once p [] = must_once ⊥ (No (Step 0))
start_once p (s ∷ ss) = before_once _ _ (must_once (p.has_wide_initial s.values ≡ false) (Wide 0)) (must_once (IsTrue (p.is_initial s.values)) (No (Step 0)))

steps_once : (p : Process) (k : ℕ) (ss : List State) (ls : List (Option Name)) → AnswersOnce (JudgesSteps p k ss ls)
steps_once p k [] ls = told_once None
steps_once p k (s ∷ []) ls = told_once None
steps_once p k (s ∷ t ∷ ss) [] = told_once None
steps_once p k (s ∷ t ∷ ss) (l ∷ ls) =
    before_once _ _ (before_once _ _ (told_once (excess_verdict k (p.excess s.values))) (must_once (IsTrue (is_step (p.choices s.values) l t.values)) (No (Step (k + 1)))))
    (steps_once p (k + 1) (t ∷ ss) ls)

pub path_once : (p : Process) (path : ReadPath) → AnswersOnce (JudgesPath p path)
path_once p path = before_once _ _ (start_once p path.states) (steps_once p 0 path.states path.labels)

pub rows_once : (p : Process) (r : ReadRows) → AnswersOnce (JudgesRows p r)
rows_once p r =
    before_once _ _ (each_once (JudgesListed p r.states) (λ i s. before_once _ _ (must_once _ _) (must_once _ _)) 0 r.states)
    (before_once _ _ (told_once (start_verdict p 0 r.states))
    (before_once _ _ (each_once (JudgesState p r.states r.rows) (λ k s. before_once _ _ (told_once (target_verdict (length r.states) k 0 r.rows))
    (before_once _ _ (told_once (excess_verdict k (p.excess s.values))) (before_once _ _ (must_once _ _) (before_once _ _ (must_once _ _) (must_once _ _))))) 0 r.states)
    (must_once _ _)))

-- ---- a verdict that is Yes
judged_yes : (A : Option Verdict → Type 0) → AnswersOnce A → (v : Verdict) → Judges A v → (v ≡ Yes) ↔ A None
judged_yes A f Yes h = (λ e. h, λ k. refl)
judged_yes A f (No why) h = (λ e. absurd cc, λ k. absurd (let e = f (Some (No why)) None h k in cc))
judged_yes A f (Wide n) h = (λ e. absurd cc, λ k. absurd (let e = f (Some (Wide n)) None h k in cc))
judged_yes A f (TooMany n) h = (λ e. absurd cc, λ k. absurd (let e = f (Some (TooMany n)) None h k in cc))

pub path_is_yes : PathIsYes
path_is_yes p path v h =
    let a = judged_yes (JudgesPath p path) (path_once p path) v h in
    let b = path_yes p path in
    (λ e. b.0 (a.0 e), λ k. a.1 (b.1 k))

pub rows_are_yes : RowsAreYes
rows_are_yes p r v w h =
    let a = judged_yes (JudgesRows p r) (rows_once p r) v h in
    let b = rows_yes p r w in
    (λ e. b.0 (a.0 e), λ k. a.1 (b.1 k))
