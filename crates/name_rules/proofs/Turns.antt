-- One declaration more is tried.
use Rattle.std.specs.Prelude.{ℕ, ◌+◌, ◌<◌, ◌≤◌, List, length, map, Bool, true, false, ◌||◌, nat_eq, Option, Some, None, if◌then◌else◌}
use Rattle.std.proofs.Common.{◌≡◌, refl, sym, ap, subst, ◌∙◌, arith}
use Rattle.std.proofs.Math.Path.{fun_ext}
use Rattle.std.proofs.lemmas.Bool.Decides.{nat_tests}
use Rattle.bridge_io.specs.declared.reason.Fault.{Fault}
use Rattle.bridge_io.specs.declared.reason.Reason.{Reason}
use Rattle.name_rules.specs.Names.{Name}
use Rattle.name_rules.specs.declared.declarations.Declaration.{Declaration}
use Rattle.name_rules.specs.declared.placing.Placing.{Placing}
use Rattle.name_rules.specs.Least.{fault, fault_if, is_before, soonest}
use Rattle.name_rules.specs.Circles.{declared_at, declared_by}
use Rattle.name_rules.specs.Rounds.{some_use, is_placed, open_from, count_in, is_blocked, IsStuckIn, IsTry, IsTurn, IsTurnTo, others, AreClosed, IsLeadingTry, IsLeadingTurn, IsLeadingTurnTo, is_past}

-- what holds of the places before one, and of that, holds of the places before the next
pub next : (P : ℕ → Type 0) (n : ℕ) → ((i : ℕ) → i < n → P i) → P n → (i : ℕ) → i < n + 1 → P i
next P n before this i l = by_test (nat_eq i n) refl
  where
    by_test : (b : Bool) → nat_eq i n ≡ b → P i
    by_test true e = let same : n ≡ i = grind (arith, nat_tests) in subst P same this
    by_test false e = let less : i < n = grind (arith, nat_tests) in before i less

module _ (all : List Declaration) where
  pub leading_more_turn : (n : ℕ) (old cur new : Name → Bool) (some b : Bool) → IsLeadingTurnTo all n old cur some → IsLeadingTry all n cur new b →
      IsLeadingTurnTo all (n + 1) old new (b || some)
  leading_more_turn n old cur new true true h t = omega (arith, h, t)
  leading_more_turn n old cur new false true h t = subst (λ (f : Name → Bool). others new (map declared_by all) < others f (map declared_by all)) (fun_ext h.0) t
  leading_more_turn n old cur new true false h t = subst (λ (f : Name → Bool). others f (map declared_by all) < others old (map declared_by all)) (sym (fun_ext t.0)) h
  leading_more_turn n old cur new false false h t = (
    λ x. t.0 x ∙ h.0 x,
    next (λ i. i < length (map declared_by all) → old (declared_at (map declared_by all) i).name.name ≡ false → some_use old (declared_at (map declared_by all) i) ≡ false) n h.1
        (subst (λ (f : Name → Bool). n < length (map declared_by all) → f (declared_at (map declared_by all) n).name.name ≡ false → some_use f (declared_at (map declared_by all) n) ≡ false) (fun_ext h.0) t.1),
  )

  pub leading_turn_done : (n : ℕ) (old new : Name → Bool) (some : Bool) → length (map declared_by all) ≤ n → IsLeadingTurnTo all n old new some → IsLeadingTurn all old new some
  leading_turn_done n old new true l h = h
  leading_turn_done n old new false l h = subst (AreClosed (map declared_by all)) (sym (fun_ext h.0)) (λ i k. h.1 i (omega (arith, l, k)) k)

  pub more_turn : (n : ℕ) (old cur new : Placing) (some b : Bool) → IsTurnTo all n old cur some → IsTry all n cur new b → IsTurnTo all (n + 1) old new (b || some)
  more_turn n old cur new true true h t = omega (arith, h, t)
  more_turn n old cur new false true h t = subst (λ (p : Placing). open_from 0 new.placed.items < open_from 0 p.placed.items) h.0 t
  more_turn n old cur new true false h t = subst (λ (p : Placing). open_from 0 p.placed.items < open_from 0 old.placed.items) (sym t.0) h
  more_turn n old cur new false false h t = (
    t.0 ∙ h.0,
    next (λ i. i < length (map declared_by all) → is_placed old.placed.items i ≡ false → is_blocked (count_in old.waiting) (declared_at (map declared_by all) i) ≡ true) n h.1
        (subst (λ (p : Placing). n < length (map declared_by all) → is_placed p.placed.items n ≡ false → is_blocked (count_in p.waiting) (declared_at (map declared_by all) n) ≡ true) h.0 t.1),
  )

  pub turn_done : (n : ℕ) (old new : Placing) (some : Bool) → length (map declared_by all) ≤ n → IsTurnTo all n old new some → IsTurn all old new some
  turn_done n old new true l h = h
  turn_done n old new false l h = subst (IsStuckIn all) (sym h.0) (λ i k. h.1 i (omega (arith, l, k)) k)

-- a fault behind one that was found changes nothing_declared
pub past_stays : (before : Option Fault) (at : ℕ) (b : Bool) (reason : Reason) → is_past before at ≡ true → soonest before (fault_if b at reason) ≡ before
past_stays None at b reason h = absurd (cc)
past_stays (Some f) at false reason h = refl
past_stays (Some f) at true reason h =
    let later : is_before (fault at reason) f ≡ false = grind (arith, nat_tests) in
    ap (λ t. if t then Some (fault at reason) else Some f) later
