-- What is kept of the targets of a choice, one row after another.
use Rattle.std.proofs.Common.{◌≡◌, ◌⊎◌, ℕ, suc, ◌+◌, ◌-◌, ◌<◌, ◌≤◌, List, [], ◌∷◌, ◌++◌, ◌&&◌, ◌||◌, Bool, true, false, Some, cond, nat_eq, length, slice_get, refl, sym, ap, ap₂, ◌∙◌, subst, inl, inr, arith, ◌↔◌}
use Rattle.std.specs.List.{list_any}
use Rattle.std.specs.Ordering.{nat_cmp}
use Rattle.std.specs.BTreeSet.{BTreeSet, contains}
use Rattle.std.specs.BTreeMap.{is_at}
use Rattle.std.proofs.lemmas.Bool.{false_from_ne_true}
use Rattle.basics.specs.Numbers.{nat_eq-self, nat_eq_comm}
use Rattle.basics.specs.Booleans.{first_true, second_true}
use Rattle.basics.specs.Members.{any_push, any_agree}
use Rattle.row_check.specs.declared.data.Row.{Row}
use Rattle.row_check.specs.Rows.{same_choice, Follows, FollowEachOther, AreOrdered}
use Rattle.row_check.specs.Forms.{MayFollow}
use Rattle.row_check.specs.Targets.{KeepsTargets, is_of_last_choice}
use Rattle.row_check.proofs.Formed.{ordered_push}
use Rattle.row_check.proofs.Held.{at_number}

-- ---- the last row
at_last : (q p : Row) (qs : List Row) → slice_get (q ∷ p ∷ qs) (length (q ∷ p ∷ qs) - 1) ≡ slice_get (p ∷ qs) (length (p ∷ qs) - 1)
at_last q p qs = let on : length (q ∷ p ∷ qs) - 1 ≡ suc (length (p ∷ qs) - 1) = omega arith in ap (slice_get (q ∷ p ∷ qs)) on

pub last_follows : (before : List Row) (q r : Row) → Some q ≡ slice_get before (length before - 1) → MayFollow before r ↔ Follows q r
last_follows [] q r e = absurd cc
last_follows (p ∷ []) q r e = let f : q ≡ p = cc in (λ h. subst (λ z. Follows z r) (sym f) h, λ h. subst (λ z. Follows z r) f h)
last_follows (a ∷ p ∷ qs) q r e = last_follows (p ∷ qs) q r (e ∙ at_last a p qs)

pub last_choice : (before : List Row) (q r : Row) → Some q ≡ slice_get before (length before - 1) → same_choice q r ≡ is_of_last_choice before r
last_choice [] q r e = absurd cc
last_choice (p ∷ []) q r e = let f : q ≡ p = cc in ap (λ z. same_choice z r) f
last_choice (a ∷ p ∷ qs) q r e = last_choice (p ∷ qs) q r (e ∙ at_last a p qs)

follows_push : (before : List Row) (q r : Row) → MayFollow (before ++ q ∷ []) r → Follows q r
follows_push [] q r h = h
follows_push (a ∷ []) q r h = h
follows_push (a ∷ p ∷ qs) q r h = follows_push (p ∷ qs) q r h

choice_push : (before : List Row) (q r : Row) → is_of_last_choice (before ++ q ∷ []) r ≡ same_choice q r
choice_push [] q r = refl
choice_push (a ∷ []) q r = refl
choice_push (a ∷ p ∷ qs) q r = choice_push (p ∷ qs) q r

-- a row with another target
abbrev to : Row → ℕ → Row
to r t = record { source = r.source; choice = r.choice; target = t; weight = r.weight; label = r.label }

follows_to : (before : List Row) (r : Row) (t : ℕ) → MayFollow before r → MayFollow before (to r t)
follows_to [] r t h = h
follows_to (q ∷ []) r t h = h
follows_to (q ∷ p ∷ qs) r t h = follows_to (p ∷ qs) r t h

choice_to : (before : List Row) (r : Row) (t : ℕ) → is_of_last_choice before (to r t) ≡ is_of_last_choice before r
choice_to [] r t = refl
choice_to (q ∷ []) r t = refl
choice_to (q ∷ p ∷ qs) r t = choice_to (p ∷ qs) r t

-- ---- order
abbrev Later : Row → Row → Type 0
Later a b = (a.source < b.source) ⊎ ((a.source ≡ b.source) × (a.choice ≤ b.choice))

later : (a b : Row) → Follows a b → Later a b
later a b (inl h) = inl h.0
later a b (inr h) = inr (h.0, by_choice h.1)
  where
    by_choice : (((a.choice ≡ b.choice) × (a.label ≡ b.label)) ⊎ (b.choice ≡ a.choice + 1)) → a.choice ≤ b.choice
    by_choice (inl h) = let e = h.0 in omega arith
    by_choice (inr h) = omega arith

later_on : (a b c : Row) → Later a b → Later b c → Later a c
later_on a b c (inl h) (inl k) = inl (omega arith)
later_on a b c (inl h) (inr k) = inl (let e = k.0 in omega arith)
later_on a b c (inr h) (inl k) = inl (let e = h.0 in omega arith)
later_on a b c (inr h) (inr k) = inr (let e = h.0 in let f = k.0 in omega arith, let e = h.1 in let f = k.1 in omega arith)

later_last : (a : Row) (rs : List Row) (r : Row) → FollowEachOther a (rs ++ r ∷ []) → Later a r
later_last a [] r h = later a r h.0
later_last a (b ∷ rs) r h = later_on a b r (later a b h.0) (later_last b rs r h.1)

eq_true : (a b : ℕ) → nat_eq a b ≡ true → a ≡ b
eq_true a b h = grind arith

same_parts : (a b : Row) → same_choice a b ≡ true → (a.source ≡ b.source) × (a.choice ≡ b.choice)
same_parts a b h = (eq_true a.source b.source (first_true (nat_eq a.source b.source) (nat_eq a.choice b.choice) h), eq_true a.choice b.choice (second_true (nat_eq a.source b.source) (nat_eq a.choice b.choice) h))

from_parts : (a b : Row) → a.source ≡ b.source → a.choice ≡ b.choice → same_choice a b ≡ true
from_parts a b e f = ap₂ (λ x y. x && y) (ap (nat_eq a.source) (sym e) ∙ nat_eq-self a.source) (ap (nat_eq a.choice) (sym f) ∙ nat_eq-self a.choice)

passed : (q b r : Row) → Later q b → Follows b r → same_choice b r ≡ false → same_choice q r ≡ false
passed q b r l f n = false_from_ne_true (same_choice q r) (λ e. let s = same_parts q r e in by_cases s.0 s.1 l f)
  where
    differ : b.source ≡ r.source → b.choice ≡ r.choice → ⊥
    differ e g = let t = from_parts b r e g in cc

    by_cases : q.source ≡ r.source → q.choice ≡ r.choice → ((q.source < b.source) ⊎ ((q.source ≡ b.source) × (q.choice ≤ b.choice))) → Follows b r → ⊥
    by_cases e g (inl h) (inl k) = let m = k.0 in absurd (omega arith)
    by_cases e g (inl h) (inr k) = let m = k.0 in absurd (omega arith)
    by_cases e g (inr h) (inl k) = let m = k.0 in let o = h.0 in absurd (omega arith)
    by_cases e g (inr h) (inr (m, inl k)) = differ m k.0
    by_cases e g (inr h) (inr (m, inr k)) = let o = h.1 in absurd (omega arith)

none_before : (before : List Row) (b r : Row) (t : Row → Bool) → AreOrdered (before ++ b ∷ []) → Follows b r → same_choice b r ≡ false → list_any (λ q. same_choice q r && t q) (before ++ b ∷ []) ≡ false
none_before [] b r t o f n = ap (λ z. (z && t b) || false) n
none_before (a ∷ before) b r t o f n = chain a before o.1
  where
    head : (a : Row) → same_choice a r ≡ false → (more : Bool) → more ≡ false → ((same_choice a r && t a) || more) ≡ false
    head a e more g = ap₂ (λ x y. (x && t a) || y) e g

    chain : (a : Row) (rs : List Row) → FollowEachOther a (rs ++ b ∷ []) → list_any (λ q. same_choice q r && t q) (a ∷ (rs ++ b ∷ [])) ≡ false
    chain a [] h = head a (passed a b r (later a b h.0) f n) _ (ap (λ z. (z && t b) || false) n)
    chain a (c ∷ rs) h = head a (passed a b r (later_last a (c ∷ rs) b h) f n) _ (chain c rs h.1)

key_is : (a b : ℕ) → is_at (nat_cmp a) b ≡ nat_eq a b
key_is a b = at_number a b ∙ nat_eq_comm b a

-- ---- one row more
module _ (old new : BTreeSet ℕ) (before : List Row) (r : Row) (k : KeepsTargets old before) (f : MayFollow before r)
    (c : (t : ℕ) → contains nat_cmp new t ≡ cond (is_at (nat_cmp r.target) t) true (is_of_last_choice before r && contains nat_cmp old t)) where
  here : (t : ℕ) → list_any (λ q. same_choice q r && nat_eq q.target t) before ≡ (is_of_last_choice before r && contains nat_cmp old t)
  here t = k.tell (to r t) (follows_to before r t f) ∙ ap (λ b. b && contains nat_cmp old t) (choice_to before r t)

  same_both : (s : Row) → same_choice r s ≡ true → (q : Row) → same_choice q s ≡ same_choice q r
  same_both s e q = let p = same_parts r s e in ap₂ (λ x y. nat_eq q.source x && nat_eq q.choice y) (sym p.0) (sym p.1)

  more : (s : Row) → MayFollow (before ++ r ∷ []) s → list_any (λ q. same_choice q s && nat_eq q.target s.target) (before ++ r ∷ []) ≡ (is_of_last_choice (before ++ r ∷ []) s && contains nat_cmp new s.target)
  more s h = by_test (same_choice r s) refl ∙ ap (λ b. b && contains nat_cmp new s.target) (sym (choice_push before r s))
    where
      joined : (x y a : Bool) → (a || (true && y)) ≡ cond y true a
      joined x true true = refl
      joined x true false = refl
      joined x false true = refl
      joined x false false = refl

      by_test : (b : Bool) → same_choice r s ≡ b → list_any (λ q. same_choice q s && nat_eq q.target s.target) (before ++ r ∷ []) ≡ (same_choice r s && contains nat_cmp new s.target)
      by_test false e = none_before before r s (λ q. nat_eq q.target s.target) (ordered_push before r k.ordered f) (follows_push before r s h) e ∙ sym (ap (λ b. b && contains nat_cmp new s.target) e)
      by_test true e =
          any_push (λ q. same_choice q s && nat_eq q.target s.target) before r
          ∙ ap₂ (λ x y. x || (y && nat_eq r.target s.target))
          (any_agree (λ q. same_choice q s && nat_eq q.target s.target) (λ q. same_choice q r && nat_eq q.target s.target) (λ q. ap (λ b. b && nat_eq q.target s.target) (same_both s e q)) before ∙ here s.target) e
          ∙ joined true (nat_eq r.target s.target) (is_of_last_choice before r && contains nat_cmp old s.target)
          ∙ ap (λ b. cond b true (is_of_last_choice before r && contains nat_cmp old s.target)) (sym (key_is r.target s.target))
          ∙ sym (c s.target)
          ∙ sym (ap (λ b. b && contains nat_cmp new s.target) e)

  pub keeps_more : KeepsTargets new (before ++ r ∷ [])
  keeps_more = record { ordered = ordered_push before r k.ordered f; tell = more }
