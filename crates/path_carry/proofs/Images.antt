-- A step of one process is a step of the other, where the two are the same by maps of states and labels.
use Rattle.std.proofs.Common.{◌≡◌, ◌||◌, ◌&&◌, not, ℕ, ◌+◌, List, [], ◌∷◌, map, Bool, true, false, cond, IsTrue, Option, nat_lt, refl, sym, ap, ap₂, ◌∙◌, count_by, arith, lt-ltb}
use Rattle.std.specs.List.{list_any, All}
use Rattle.std.proofs.lemmas.List.Sums.{sum_by-cons}
use Rattle.std.proofs.lemmas.List.Elements.{All-head, All-tail}
use Rattle.basics.specs.Booleans.{same_test}
use Rattle.frac_core.specs.Fraction.{Fraction}
use Rattle.process_core.specs.Process.{Branch, Outcome, Good, Bad, Choice, EquallyOften, SameAt, branch_image, outcome_image, choice_image}
use Rattle.process_core.specs.Often.{often_count}
use Rattle.process_core.specs.Distribution.{IsProper}
use Rattle.process_core.specs.Equal.{equal_states, equal_states_is, same_label_is}
use Rattle.process_core.specs.Ready.{Values, Name, same_label}
use Rattle.process_core.specs.Steps.{Process, IsProcess, seen_by}
use Rattle.process_core.specs.Paths.{is_positive, any_leads_to, leads_to, is_step}

-- ---- a test that some member passes, by counts
any_counted : {X : Type 0} (p : X → Bool) (xs : List X) → list_any p xs ≡ nat_lt 0 (count_by p xs)
any_counted p [] = refl
any_counted p (x ∷ xs) = by_first (p x) (list_any p xs) (count_by p xs) (any_counted p xs) ∙ ap (nat_lt 0) (sym (sum_by-cons (λ y. cond (p y) 1 0) x xs))
  where
    by_first : (b r : Bool) (n : ℕ) → r ≡ nat_lt 0 n → (b || r) ≡ nat_lt 0 (cond b 1 0 + n)
    by_first true r n h = sym (lt-ltb 0 (1 + n) (omega arith))
    by_first false r n h = h ∙ (let e : n ≡ 0 + n = omega arith in ap (nat_lt 0) e)

pub any_often : {X : Type 0} (p : X → Bool) (xs ys : List X) → EquallyOften xs ys → list_any p xs ≡ list_any p ys
any_often p xs ys h = any_counted p xs ∙ ap (nat_lt 0) (often_count h p) ∙ sym (any_counted p ys)

-- ---- one step
module _ (is_state : Values → Bool) (label : Option Name → Option Name) (state : Values → Values)
    (one : (s t : Values) → IsTrue (is_state s) → IsTrue (is_state t) → state s ≡ state t → s ≡ t) where
  same_states : (s t : Values) → IsTrue (is_state s) → IsTrue (is_state t) → equal_states (state s) (state t) ≡ equal_states s t
  same_states s t h k =
      same_test _ _ (λ e. (equal_states_is s t).1 (one s t h k ((equal_states_is (state s) (state t)).0 e)))
      (λ e. (equal_states_is (state s) (state t)).1 (ap state ((equal_states_is s t).0 e)))

  branches : (t : Values) → IsTrue (is_state t) → (bs : List (Branch Fraction Values)) → All (λ b. IsTrue (is_state b.target)) bs →
      any_leads_to (state t) (map (branch_image state) bs) ≡ any_leads_to t bs
  branches t h [] k = refl
  branches t h (b ∷ bs) k =
      ap₂ (λ x y. (is_positive b.probability && x) || y) (same_states t b.target h (All-head (λ (c : Branch Fraction Values). IsTrue (is_state c.target)) b bs k))
      (branches t h bs (All-tail (λ (c : Branch Fraction Values). IsTrue (is_state c.target)) b bs k))

  outcomes : (t : Values) → IsTrue (is_state t) → (o : Outcome Fraction Values) → IsProper is_state o → leads_to (state t) (outcome_image state o) ≡ leads_to t o
  outcomes t h (Good bs) k = branches t h bs k.targets
  outcomes t h (Bad kinds) k = refl

  -- a choice with this label leads to the state's image exactly where one that passes the test of labels leads to the state
  images : (test : Option Name → Bool) (l : Option Name) (has : Option Name → Bool) → ((x : Option Name) → has x ≡ true → same_label l (label x) ≡ test x) →
      (t : Values) → IsTrue (is_state t) → (cs : List (Choice Name Fraction Values)) → All (λ c. IsProper is_state c.outcome) cs → All (λ c. has c.label ≡ true) cs →
      is_step (map (choice_image label state) cs) l (state t) ≡ list_any (λ c. test c.label && leads_to t c.outcome) cs
  images test l has tests t h [] p q = refl
  images test l has tests t h (c ∷ cs) p q =
      ap₂ (λ x y. x || y)
      (ap₂ (λ x y. x && y) (tests c.label (All-head (λ (d : Choice Name Fraction Values). has d.label ≡ true) c cs q))
      (outcomes t h c.outcome (All-head (λ (d : Choice Name Fraction Values). IsProper is_state d.outcome) c cs p)))
      (images test l has tests t h cs (All-tail (λ (d : Choice Name Fraction Values). IsProper is_state d.outcome) c cs p) (All-tail (λ (d : Choice Name Fraction Values). has d.label ≡ true) c cs q))

module _ (p j : Process) (label : Option Name → Option Name) (state : Values → Values) (has : Option Name → Bool) (lawful : IsProcess p) (same : SameAt (seen_by p) (seen_by j) label state)
    (labels : (s : Values) → IsTrue (p.is_state s) → All (λ c. has c.label ≡ true) (p.choices s)) where
  -- the step of the other process, by a test of labels that agrees with its label
  pub step_image : (test : Option Name → Bool) (l : Option Name) → ((x : Option Name) → has x ≡ true → same_label l (label x) ≡ test x) →
      (s t : Values) → IsTrue (p.is_state s) → IsTrue (p.is_state t) → is_step (j.choices (state s)) l (state t) ≡ list_any (λ c. test c.label && leads_to t c.outcome) (p.choices s)
  step_image test l tests s t h k =
      sym (any_often (λ c. same_label l c.label && leads_to (state t) c.outcome) (map (choice_image label state) (p.choices s)) (j.choices (state s)) (same.choices s h))
      ∙ images p.is_state label state same.one test l has tests t k (p.choices s) (lawful.proper s h) (labels s h)

  -- each label there is that of a label here
  pub labels_there : (there : Option Name → Bool) → ((x : Option Name) → has x ≡ true → there (label x) ≡ true) → (s : Values) → IsTrue (p.is_state s) →
      list_any (λ c. not (there c.label)) (j.choices (state s)) ≡ false
  labels_there there goes s h =
      sym (any_often (λ c. not (there c.label)) (map (choice_image label state) (p.choices s)) (j.choices (state s)) (same.choices s h)) ∙ none (p.choices s) (labels s h)
    where
      none : (cs : List (Choice Name Fraction Values)) → All (λ c. has c.label ≡ true) cs → list_any (λ c. not (there c.label)) (map (choice_image label state) cs) ≡ false
      none [] q = refl
      none (c ∷ cs) q =
          ap₂ (λ x y. not x || y) (goes c.label (All-head (λ (d : Choice Name Fraction Values). has d.label ≡ true) c cs q)) (none cs (All-tail (λ (d : Choice Name Fraction Values). has d.label ≡ true) c cs q))

-- where each label of the choices passes a test, that of a step does
pub step_has : (has : Option Name → Bool) (l : Option Name) (t : Values) (cs : List (Choice Name Fraction Values)) → list_any (λ c. not (has c.label)) cs ≡ false → is_step cs l t ≡ true → has l ≡ true
step_has has l t [] h e = absurd cc
step_has has l t (c ∷ cs) h e = by_first (step_has has l t cs) (same_label l c.label) (leads_to t c.outcome) (has c.label) refl refl h e
  where
    by_first : (list_any (λ d. not (has d.label)) cs ≡ false → is_step cs l t ≡ true → has l ≡ true) → (a b r : Bool) → same_label l c.label ≡ a → has c.label ≡ r → (not r || list_any (λ d. not (has d.label)) cs) ≡ false →
        ((a && b) || is_step cs l t) ≡ true → has l ≡ true
    by_first ih a b false e f h k = absurd cc
    by_first ih true b true e f h k = ap has ((same_label_is l c.label).0 e) ∙ f
    by_first ih false b true e f h k = ih h k

pub none_lacks : (has : Option Name → Bool) (cs : List (Choice Name Fraction Values)) → All (λ c. has c.label ≡ true) cs → list_any (λ c. not (has c.label)) cs ≡ false
none_lacks has [] h = refl
none_lacks has (c ∷ cs) h =
    ap₂ (λ x y. not x || y) (All-head (λ (d : Choice Name Fraction Values). has d.label ≡ true) c cs h) (none_lacks has cs (All-tail (λ (d : Choice Name Fraction Values). has d.label ≡ true) c cs h))
