-- What a program keeps of the sums of a choice.
use Rattle.std.proofs.Common.{◌≡◌, ℕ, zero, suc, ◌+◌, ◌<◌, List, [], ◌∷◌, ◌++◌, ◌||◌, Bool, true, false, not, cond, Option, Some, None, nat_eq, nat_lt, if◌then◌else◌, length, get_or, take, map, refl, sym, ap, ap₂, ◌∙◌, arith, eqb-true, eq-eqb, ltb-true, lt-ltb}
use Rattle.std.specs.List.{list_any}
use Rattle.std.specs.Ordering.{nat_cmp, is_eq}
use Rattle.std.specs.Cmp.{nat_cmp_total, tied_itself}
use Rattle.std.specs.BTreeMap.{BTreeMap, get, Updates}
use Rattle.std.proofs.lemmas.Map.Lookups.{exact_unsigned}
use Rattle.std.proofs.lemmas.List.{take_more}
use Rattle.frac_core.specs.Fraction.{Fraction, nought, same_number}
use Rattle.process_core.specs.Process.{Branch}
use Rattle.process_core.specs.Ready.{Values}
use Rattle.process_core.specs.Equal.{equal_states, equal_states_is}
use Rattle.process_core.specs.declared.data.State.{State}
use Rattle.row_check.specs.declared.data.Row.{Row}
use Rattle.row_check.specs.Index.{values_at, number_from, IsIndex}
use Rattle.row_check.specs.Merging.{later, held, held_below, held_row, unless_nought}
use Rattle.basics.specs.Booleans.{same_test}
use Rattle.process_core.proofs.Keys.{is_equal}
use Rattle.row_check.proofs.Numbers.{number_is}

pub at_number : (k q : ℕ) → is_eq (nat_cmp k q) ≡ nat_eq q k
at_number k q =
    same_test (is_eq (nat_cmp k q)) (nat_eq q k)
    (λ h. eq-eqb q k (sym (exact_unsigned k q (is_equal _ h))))
    (λ h. ap (λ x. is_eq (nat_cmp k x)) (eqb-true q k h) ∙ ap is_eq (tied_itself nat_cmp_total k))

pub later_none : (o : Option Fraction) → later o None ≡ o
later_none None = refl
later_none (Some x) = refl

later_assoc : (a b c : Option Fraction) → later (later a b) c ≡ later a (later b c)
later_assoc (Some x) b c = refl
later_assoc None b c = refl

own_row : ℕ → Row → Option Fraction
own_row q r = if nat_eq q r.target then unless_nought r.weight else None

held_row_push : (q : ℕ) (rs : List Row) (r : Row) → held_row q (rs ++ r ∷ []) ≡ later (own_row q r) (held_row q rs)
unfolding own_row
held_row_push q [] r = sym (later_none _)
held_row_push q (x ∷ rs) r = ap (λ o. later o (if nat_eq q x.target then unless_nought x.weight else None)) (held_row_push q rs r) ∙ later_assoc _ (held_row q rs) _

pub row_skipped : (q : ℕ) (rs : List Row) (r : Row) (o : Option Fraction) → same_number r.weight nought ≡ true → o ≡ held_row q rs → o ≡ held_row q (rs ++ r ∷ [])
unfolding own_row
row_skipped q rs r o z h = h ∙ ap (λ x. later x (held_row q rs)) (sym (none (nat_eq q r.target))) ∙ sym (held_row_push q rs r)
  where
    none : (b : Bool) → (if b then unless_nought r.weight else None) ≡ None
    none true = ap (λ t. if t then None else Some r.weight) z
    none false = refl

pub row_kept : (m n : BTreeMap ℕ Fraction) (q : ℕ) (rs : List Row) (r : Row) → same_number r.weight nought ≡ false → get nat_cmp m q ≡ held_row q rs → Updates nat_cmp m n r.target (Some r.weight) →
    get nat_cmp n q ≡ held_row q (rs ++ r ∷ [])
unfolding own_row
row_kept m n q rs r z h u =
    u.0 q ∙ ap₂ (λ b o. cond b (Some r.weight) o) (at_number r.target q) h ∙ by_test (nat_eq q r.target) ∙ sym (held_row_push q rs r)
  where
    by_test : (b : Bool) → cond b (Some r.weight) (held_row q rs) ≡ later (if b then unless_nought r.weight else None) (held_row q rs)
    by_test true = ap (λ t. later (if t then None else Some r.weight) (held_row q rs)) (sym z)
    by_test false = refl

-- ---- branches
own_branch : Values → Branch Fraction Values → Option Fraction
own_branch t b = if equal_states t b.target then Some b.probability else None

held_push : (t : Values) (bs : List (Branch Fraction Values)) (b : Branch Fraction Values) → held t (bs ++ b ∷ []) ≡ later (own_branch t b) (held t bs)
unfolding own_branch
held_push t [] b = sym (later_none _)
held_push t (x ∷ bs) b = ap (λ o. later o (if equal_states t x.target then Some x.probability else None)) (held_push t bs b) ∙ later_assoc _ (held t bs) _

-- a listed state has the number that is found of it, and no other has
pub number_told : (m : _) (ss : List State) → IsIndex m ss → (t : Values) (i q : ℕ) → number_from 0 t ss ≡ Some i → q < length ss → equal_states (values_at ss q) t ≡ nat_eq q i
number_told m ss x t i q h l =
    same_test (equal_states (values_at ss q) t) (nat_eq q i)
    (λ e. eq-eqb q i (let f : Some q ≡ Some i = sym (x.first q l) ∙ ap (λ s. number_from 0 s ss) ((equal_states_is (values_at ss q) t).0 e) ∙ h in cc))
    (λ e.
    let found = number_is 0 t ss i h in
    let same : q ≡ found.0 = let f = eqb-true q i e in omega arith in
    (equal_states_is (values_at ss q) t).1 (ap (values_at ss) same ∙ found.3))

pub branch_kept : (m n : BTreeMap ℕ Fraction) (index : _) (ss : List State) (x : IsIndex index ss) (q i : ℕ) (bs : List (Branch Fraction Values)) (b : Branch Fraction Values) → number_from 0 b.target ss ≡ Some i →
    get nat_cmp m q ≡ held_below ss q bs → Updates nat_cmp m n i (Some b.probability) → get nat_cmp n q ≡ held_below ss q (bs ++ b ∷ [])
unfolding own_branch
branch_kept m n index ss x q i bs b f h u =
    u.0 q ∙ ap₂ (λ c o. cond c (Some b.probability) o) (at_number i q) h ∙ by_order (nat_lt q (length ss)) refl
    ∙ ap (λ o. if nat_lt q (length ss) then o else None) (sym (held_push (values_at ss q) bs b))
  where
    by_test : (c : Bool) (o : Option Fraction) → cond c (Some b.probability) o ≡ later (if c then Some b.probability else None) o
    by_test true o = refl
    by_test false o = refl

    outside : (c : Bool) → c ≡ nat_eq q i → nat_lt q (length ss) ≡ false → cond c (Some b.probability) None ≡ None
    outside true e l =
        let found = number_is 0 b.target ss i f in
        let same : q ≡ found.0 = let g = eqb-true q i (sym e) in omega arith in
        let below : nat_lt q (length ss) ≡ true = lt-ltb q (length ss) (omega arith) in
        absurd cc
    outside false e l = refl

    by_order : (c : Bool) → c ≡ nat_lt q (length ss) → cond (nat_eq q i) (Some b.probability) (if c then held (values_at ss q) bs else None) ≡ (if c then later (own_branch (values_at ss q) b) (held (values_at ss q) bs) else None)
    by_order true e =
        by_test (nat_eq q i) (held (values_at ss q) bs)
        ∙ ap (λ c. later (if c then Some b.probability else None) (held (values_at ss q) bs)) (sym (number_told index ss x b.target i q f (ltb-true q (length ss) (sym e))))
    by_order false e = outside (nat_eq q i) refl (sym e)

-- ---- some member, and no member
pub any_at : {X Y : Type 0} (p : Y → Bool) (f : X → Y) (xs : List X) (i : ℕ) (x : X) → i < length xs → x ≡ get_or xs i x → p (f x) ≡ true → list_any p (map f xs) ≡ true
any_at p f [] i x l e h = absurd (omega arith)
any_at p f (y ∷ xs) zero x l e h = ap (λ b. b || list_any p (map f xs)) (ap (λ z. p (f z)) (sym e) ∙ h)
any_at p f (y ∷ xs) (suc i) x l e h = ap (λ b. p (f y) || b) (any_at p f xs i x (omega arith) e h) ∙ or_true (p (f y))
  where
    or_true : (b : Bool) → (b || true) ≡ true
    or_true true = refl
    or_true false = refl

pub none_push : {X Y : Type 0} (p : Y → Bool) (f : X → Y) (xs : List X) (x : X) → list_any p (map f xs) ≡ false → p (f x) ≡ false → list_any p (map f (xs ++ x ∷ [])) ≡ false
none_push p f [] x h k = ap (λ b. b || false) k
none_push p f (y ∷ xs) x h k = by_first (p (f y)) h (none_push p f xs x)
  where
    by_first : (b : Bool) → (b || list_any p (map f xs)) ≡ false → (list_any p (map f xs) ≡ false → p (f x) ≡ false → list_any p (map f (xs ++ x ∷ [])) ≡ false) → (b || list_any p (map f (xs ++ x ∷ []))) ≡ false
    by_first true e ih = absurd cc
    by_first false e ih = ih e k

pub one_more : {X : Type 0} (xs : List X) (i : ℕ) (x : X) → i < length xs → x ≡ get_or xs i x → take (i + 1) xs ≡ take i xs ++ x ∷ []
one_more xs i x l e = take_more xs i x l ∙ ap (λ w. take i xs ++ w ∷ []) (sym e)

-- ---- tests of a probability
pub told_nought : (x z : Fraction) → z ≡ nought → false ≡ not (same_number x z) → same_number x nought ≡ true
told_nought x z e h = by_truth_value (same_number x nought) (h ∙ ap (λ y. not (same_number x y)) e)
  where
    by_truth_value : (b : Bool) → false ≡ not b → b ≡ true
    by_truth_value true h = refl
    by_truth_value false h = absurd cc

pub told_other : (x z : Fraction) → z ≡ nought → true ≡ not (same_number x z) → same_number x nought ≡ false
told_other x z e h = by_truth_value (same_number x nought) (h ∙ ap (λ y. not (same_number x y)) e)
  where
    by_truth_value : (b : Bool) → true ≡ not b → b ≡ false
    by_truth_value true h = absurd cc
    by_truth_value false h = refl
