-- Declarations placed one after another.
use Rattle.std.specs.Prelude.{ℕ, zero, suc, ◌+◌, ◌-◌, ◌<◌, List, [], ◌∷◌, ◌++◌, length, get_or, set, replicate, Bool, true, false, not, ◌&&◌, ◌||◌, bytes_eq, nat_lt, nat_eq, ◌≢◌, if◌then◌else◌}
use Rattle.std.specs.List.{All, list_any}
use Rattle.std.proofs.Common.{◌≡◌, refl, sym, ap, ap₂, subst, ◌∙◌, arith, append_assoc}
use Rattle.std.proofs.lemmas.Bool.Decides.{nat_tests}
use Rattle.std.proofs.lemmas.List.{get_or-set_other, length-set, append-nil, length-replicate}
use Rattle.std.proofs.lemmas.List.Elements.{All-push, All-from_get_or, All-nil}
use Rattle.std.proofs.lemmas.List.Folds.{list_any-append}
use Rattle.std.proofs.lemmas.Slice.Eq.{bytes_eq-Decides}
use Rattle.basics.specs.Texts.{bytes_eq-self}
use Rattle.name_rules.specs.Names.{Name}
use Rattle.op_trees.specs.Names.{is_called}
use Rattle.name_rules.specs.Circles.{Declared, leads_to, is_circular}
use Rattle.name_rules.specs.Circles.{nothing_declared, declared_at, HasTurned, AreInTurn, turns_from}
use Rattle.name_rules.specs.Rounds.{some_use, is_placed, one_if, waiting, is_blocked, open_from, IsPlacing}
use Rattle.name_rules.proofs.Leads.{any_false, all_false, any_stronger, uses_of_any, leads_by}

-- ---- what waits
-- placing one lessens its name's number
pub waiting_set : (ds : List Declared) (bs : List Bool) (i : ℕ) (x : Name) → i < length ds → length bs ≡ length ds → is_placed bs i ≡ false →
    waiting ds bs x ≡ one_if (is_called x (declared_at ds i).name) + waiting ds (set bs i true) x
waiting_set [] bs i x l e out = absurd (omega arith)
waiting_set (d ∷ ds) [] i x l e out = absurd (omega (arith, e))
waiting_set (d ∷ ds) (b ∷ bs) zero x l e out =
    let first = ap (λ c. one_if (not c && is_called x d.name) + waiting ds bs x) out in
    omega (arith, first)
waiting_set (d ∷ ds) (b ∷ bs) (suc i) x l e out =
    let ih = waiting_set ds bs i x (omega arith) (omega (arith, e)) out in
    omega (arith, ih)

-- of a name of which none waits all are placed
pub all_placed : (ds : List Declared) (bs : List Bool) (i : ℕ) (x : Name) → i < length ds → length bs ≡ length ds → waiting ds bs x ≡ 0 →
    is_called x (declared_at ds i).name ≡ true → is_placed bs i ≡ true
all_placed ds bs i x l e none c = by_test (is_placed bs i) refl
  where
    by_test : (b : Bool) → is_placed bs i ≡ b → b ≡ true
    by_test true t = refl
    by_test false t =
        let less = waiting_set ds bs i x l e t ∙ ap (λ b. one_if b + waiting ds (set bs i true) x) c in
        absurd (omega (arith, less, none))

-- one that waits
pub one_waits : (ds : List Declared) (bs : List Bool) (x : Name) → length bs ≡ length ds → 0 < waiting ds bs x →
    (i : ℕ) × (i < length ds) × (is_called x (declared_at ds i).name ≡ true) × (is_placed bs i ≡ false)
one_waits [] bs x e h = absurd (omega arith)
one_waits (d ∷ ds) [] x e h = absurd (omega (arith, e))
one_waits (d ∷ ds) (b ∷ bs) x e h = by_test b (is_called x d.name) refl refl h (one_waits ds bs x (omega (arith, e)))
  where
    by_test : (p t : Bool) → b ≡ p → is_called x d.name ≡ t → 0 < one_if (not p && t) + waiting ds bs x →
        (0 < waiting ds bs x → (i : ℕ) × (i < length ds) × (is_called x (declared_at ds i).name ≡ true) × (is_placed bs i ≡ false)) →
        (i : ℕ) × (i < suc (length ds)) × (is_called x (declared_at (d ∷ ds) i).name ≡ true) × (is_placed (b ∷ bs) i ≡ false)
    by_test false true p t k ih = (0, omega arith, t, p)
    by_test false false p t k ih = let r = ih (omega (arith, k)) in let l = r.1 in (suc r.0, omega (arith, l), r.2, r.3)
    by_test true t p c k ih = let r = ih (omega (arith, k)) in let l = r.1 in (suc r.0, omega (arith, l), r.2, r.3)

-- ---- counts of turns
turns_from-push : (c : ℕ) (ts : List ℕ) (i : ℕ) → length (turns_from c (ts ++ i ∷ [])) ≡ length (turns_from c ts) + one_if (not (nat_lt i c))
turns_from-push c [] i = let one = by_test (nat_lt i c) in omega (arith, one)
  where
    by_test : (b : Bool) → length (if b then [] else (i - c) ∷ []) ≡ one_if (not b)
    by_test true = refl
    by_test false = refl
turns_from-push c (t ∷ ts) i = by_test (nat_lt t c) (turns_from-push c ts i)
  where
    by_test : (b : Bool) → length (turns_from c (ts ++ i ∷ [])) ≡ length (turns_from c ts) + one_if (not (nat_lt i c)) →
        length (if b then turns_from c (ts ++ i ∷ []) else (t - c) ∷ turns_from c (ts ++ i ∷ [])) ≡ length (if b then turns_from c ts else (t - c) ∷ turns_from c ts) + one_if (not (nat_lt i c))
    by_test true h = h
    by_test false h = omega (arith, h)

open_from-set : (c : ℕ) (bs : List Bool) (i : ℕ) → i < length bs → is_placed bs i ≡ false → open_from c bs ≡ one_if (not (nat_lt i c)) + open_from c (set bs i true)
open_from-set c [] i l e = absurd (omega arith)
open_from-set zero (b ∷ bs) zero l e = let first = ap (λ p. one_if (not p) + open_from zero bs) e in omega (arith, first)
open_from-set (suc c) (b ∷ bs) zero l e =
    let h : nat_lt 0 (suc c) ≡ true = grind (arith, nat_tests) in
    let one : 0 ≡ one_if (not (nat_lt 0 (suc c))) = sym (ap (λ t. one_if (not t)) h) in
    omega (arith, one)
open_from-set zero (b ∷ bs) (suc i) l e =
    let ih = open_from-set zero bs i (omega arith) e in
    let h : nat_lt i 0 ≡ false = grind (arith, nat_tests) in
    let k : nat_lt (suc i) 0 ≡ false = grind (arith, nat_tests) in
    let one = ap (λ t. one_if (not t)) h in
    let two = ap (λ t. one_if (not t)) k in
    omega (arith, ih, one, two)
open_from-set (suc c) (b ∷ bs) (suc i) l e =
    open_from-set c bs i (omega arith) e ∙ ap (λ t. one_if (not t) + open_from c (set bs i true)) (sym (both_more (nat_lt i c) refl))
  where
    both_more : (t : Bool) → nat_lt i c ≡ t → nat_lt (suc i) (suc c) ≡ t
    both_more true h = grind (arith, nat_tests)
    both_more false h = grind (arith, nat_tests)

-- ---- the order of turns
in_turn-push : (ds : List Declared) (before ts : List ℕ) (i : ℕ) → AreInTurn ds before ts → All (HasTurned ds (before ++ ts)) (declared_at ds i).uses →
    AreInTurn ds before (ts ++ i ∷ [])
in_turn-push ds before [] i h u = (subst (λ (b : List ℕ). All (HasTurned ds b) (declared_at ds i).uses) (append-nil before) u, tt)
in_turn-push ds before (t ∷ ts) i h u =
    (h.0, in_turn-push ds (before ++ t ∷ []) ts i h.1 (subst (λ (b : List ℕ). All (HasTurned ds b) (declared_at ds i).uses) (sym (append_assoc before (t ∷ []) ts)) u))

-- ---- names of which none waits lead to no other
module _ (ds : List Declared) (left : Name → ℕ) (placed : List Bool) (turns : List ℕ) (h : IsPlacing ds left placed turns) where
  none_waits : (x : Name) (i : ℕ) → i < length ds → nat_lt 0 (left x) ≡ false → is_called x (declared_at ds i).name ≡ true → is_placed placed i ≡ true
  none_waits x i l w c =
      let none : waiting ds placed x ≡ 0 = (let e = h.counts x in let n : left x ≡ 0 = grind (arith, nat_tests) in sym e ∙ n) in
      all_placed ds placed i x l h.size none c

  apart : (y : Name) → nat_lt 0 (left y) ≡ true → (x : Name) → nat_lt 0 (left x) ≡ false → (b : Bool) → bytes_eq x y ≡ b → b ≡ false
  apart y w x free true e = sym w ∙ sym (ap (λ z. nat_lt 0 (left z)) ((bytes_eq-Decides x y).0 e)) ∙ free
  apart y w x free false e = refl

  pub stays_free : (y : Name) → nat_lt 0 (left y) ≡ true → (n : ℕ) (x : Name) → nat_lt 0 (left x) ≡ false → leads_to ds n x y ≡ false
  stays_free y w zero x free = apart y w x free (bytes_eq x y) refl
  stays_free y w (suc n) x free =
      ap₂ (λ a b. a || b) (apart y w x free (bytes_eq x y) refl)
      (uses_of_any ds (leads_by ds n y) x ∙ any_false _ nothing_declared ds (λ i l. by_test i l (is_called x (declared_at ds i).name) refl (stays_free y w n)))
    where
      by_use : (z : Name) (b : Bool) → nat_lt 0 (left z) ≡ b → leads_to ds n z y ≡ true → ((z : Name) → nat_lt 0 (left z) ≡ false → leads_to ds n z y ≡ false) → b ≡ true
      by_use z true e t ih = refl
      by_use z false e t ih = sym (ih z e) ∙ t

      by_test : (i : ℕ) → i < length ds → (b : Bool) → is_called x (declared_at ds i).name ≡ b → ((z : Name) → nat_lt 0 (left z) ≡ false → leads_to ds n z y ≡ false) →
          (b && some_use (leads_by ds n y) (declared_at ds i)) ≡ false
      by_test i l true c ih =
          any_stronger (λ z. nat_lt 0 (left z)) (leads_by ds n y) (λ z t. by_use z (nat_lt 0 (left z)) refl t ih) (declared_at ds i).uses
          (h.free i (none_waits x i l free c))
      by_test i l false c ih = refl

  -- a declaration of which no other waits is in no circle
  pub free_name : (i : ℕ) → i < length ds → nat_lt 0 (left (declared_at ds i).name.name) ≡ false → is_circular ds (declared_at ds i) ≡ false
  free_name i l w = h.sound i (none_waits (declared_at ds i).name.name i l w (bytes_eq-self (declared_at ds i).name.name))

  -- ---- one more
  module _ (i : ℕ) (l : i < length ds) (out : is_placed placed i ≡ false) (clear : is_blocked left (declared_at ds i) ≡ false) where
    waits_itself : nat_lt 0 (left (declared_at ds i).name.name) ≡ true
    waits_itself =
        let d = declared_at ds i in
        let e = h.counts d.name.name ∙ waiting_set ds placed i d.name.name l h.size out ∙ ap (λ b. one_if b + waiting ds (set placed i true) d.name.name) (bytes_eq-self d.name.name) in
        let k : 0 < left d.name.name = omega (arith, e) in
        grind (arith, nat_tests)

    pub fewer_left : 0 < left (declared_at ds i).name.name
    fewer_left =
        let d = declared_at ds i in
        let e = h.counts d.name.name ∙ waiting_set ds placed i d.name.name l h.size out ∙ ap (λ b. one_if b + waiting ds (set placed i true) d.name.name) (bytes_eq-self d.name.name) in
        omega (arith, e)

    in_no_circle : is_circular ds (declared_at ds i) ≡ false
    in_no_circle =
        any_stronger (λ z. nat_lt 0 (left z)) (leads_by ds (length ds) (declared_at ds i).name.name)
        (λ z t. by_use z (nat_lt 0 (left z)) refl t) (declared_at ds i).uses clear
      where
        by_use : (z : Name) (b : Bool) → nat_lt 0 (left z) ≡ b → leads_to ds (length ds) z (declared_at ds i).name.name ≡ true → b ≡ true
        by_use z true e t = refl
        by_use z false e t = sym (stays_free (declared_at ds i).name.name waits_itself (length ds) z e) ∙ t

    all_turned : All (HasTurned ds turns) (declared_at ds i).uses
    all_turned =
        All-from_get_or (HasTurned ds turns) (declared_at ds i).uses []
        (λ k m j lj c. h.turned j (none_waits (get_or (declared_at ds i).uses k []) j lj (all_false (λ z. nat_lt 0 (left z)) (declared_at ds i).uses clear k [] m) c))

    pub placing_more : (fewer : Name → ℕ) → ((x : Name) → left x ≡ one_if (is_called x (declared_at ds i).name) + fewer x) →
        IsPlacing ds fewer (set placed i true) (turns ++ i ∷ [])
    placing_more fewer less = record {
      size = length-set placed i true ∙ h.size;
      counts =
          λ x. let a = less x in let b = h.counts x in let c = waiting_set ds placed i x l h.size out in omega (arith, a, b, c);
      free = λ j p. any_stronger (λ z. nat_lt 0 (left z)) (λ z. nat_lt 0 (fewer z)) weaker (declared_at ds j).uses (by_place (λ k. is_blocked left (declared_at ds k)) j (nat_eq j i) refl p clear (h.free j));
      sound = λ j p. by_place (λ k. is_circular ds (declared_at ds k)) j (nat_eq j i) refl p in_no_circle (h.sound j);
      turned = λ j p. list_any-append (nat_eq j) turns (i ∷ []) ∙ turn j (nat_eq j i) refl p;
      within = All-push (λ t. t < length ds) turns i h.within l;
      counted =
          λ c. let a = turns_from-push c turns i in let b = open_from-set c placed i (omega (arith, l, h.size)) out in let k = h.counted c in omega (arith, a, b, k);
      order = in_turn-push ds [] turns i h.order all_turned;
    }
      where
        weaker : (z : Name) → nat_lt 0 (fewer z) ≡ true → nat_lt 0 (left z) ≡ true
        weaker z t = let a = less z in grind (arith, nat_tests)

        other : (j : ℕ) → nat_eq j i ≡ false → j ≢ i
        other j e = grind (arith, nat_tests)

        -- a test that this one fails, and that each fails that was placed before
        by_place : (f : ℕ → Bool) (j : ℕ) (b : Bool) → nat_eq j i ≡ b → is_placed (set placed i true) j ≡ true → f i ≡ false → (is_placed placed j ≡ true → f j ≡ false) → f j ≡ false
        by_place f j true e p this before = let same : j ≡ i = grind (arith, nat_tests) in ap f same ∙ this
        by_place f j false e p this before = before (sym (get_or-set_other placed i j true false (other j e)) ∙ p)

        turn : (j : ℕ) (b : Bool) → nat_eq j i ≡ b → is_placed (set placed i true) j ≡ true → (list_any (nat_eq j) turns || (b || false)) ≡ true
        turn j true e p = or_true (list_any (nat_eq j) turns)
          where
            or_true : (a : Bool) → (a || true) ≡ true
            or_true true = refl
            or_true false = refl
        turn j false e p = ap (λ a. a || false) (h.turned j (sym (get_or-set_other placed i j true false (other j e)) ∙ p))

-- fewer are left to be placed
pub open_less : (bs : List Bool) (i : ℕ) → i < length bs → is_placed bs i ≡ false → open_from 0 (set bs i true) < open_from 0 bs
open_less bs i l out =
    let none : nat_lt i 0 ≡ false = grind (arith, nat_tests) in
    let e = open_from-set 0 bs i l out ∙ ap (λ b. one_if (not b) + open_from 0 (set bs i true)) none in
    omega (arith, e)

-- at first none has a place
none_open : (i n : ℕ) → is_placed (replicate n false) i ≡ false
none_open i zero = refl
none_open zero (suc n) = refl
none_open (suc i) (suc n) = none_open i n

waiting-none : (ds : List Declared) (x : Name) → waiting ds (replicate (length ds) false) x ≡ waiting ds [] x
waiting-none [] x = refl
waiting-none (d ∷ ds) x = ap (λ n. one_if (is_called x d.name) + n) (waiting-none ds x)

open_from-none : (c n : ℕ) → open_from c (replicate n false) ≡ n - c
open_from-none c zero = omega arith
open_from-none zero (suc n) = let ih = open_from-none zero n in omega (arith, ih)
open_from-none (suc c) (suc n) = let ih = open_from-none c n in omega (arith, ih)

pub placing_none : (ds : List Declared) (left : Name → ℕ) → ((x : Name) → left x ≡ waiting ds [] x) → IsPlacing ds left (replicate (length ds) false) []
placing_none ds left is = record {
  size = length-replicate (length ds) false;
  counts = λ x. is x ∙ sym (waiting-none ds x);
  free = λ i p. absurd (let n = none_open i (length ds) in cc);
  sound = λ i p. absurd (let n = none_open i (length ds) in cc);
  turned = λ i p. absurd (let n = none_open i (length ds) in cc);
  within = All-nil (λ t. t < length ds);
  counted = λ c. let o = open_from-none c (length ds) in omega (arith, o);
  order = tt;
}
