-- Numbers of declarations in an order in which each stands behind those that it uses: where a number has its turn, and what was there before it.
use Rattle.std.proofs.Common.{◌≡◌, ℕ, zero, suc, ◌<◌, List, [], ◌∷◌, ◌++◌, length, take, Bool, true, false, ◌||◌, Some, refl, sym, ap, subst, ◌∙◌, append_assoc, append-nil, arith}
use Rattle.std.specs.Prelude.{◌-◌, nat_eq, nat_lt, slice_get, if◌then◌else◌}
use Rattle.std.specs.List.{All, list_any}
use Rattle.std.proofs.lemmas.Bool.Decides.{nat_tests}
use Rattle.name_rules.specs.Circles.{Declared, declared_at, HasTurned, AreInTurn, turns_from}

-- the place of a number among the turns
abbrev pub turn_of : List ℕ → ℕ → ℕ
turn_of [] t = 0
turn_of (u ∷ us) t = if nat_eq t u then 0 else suc (turn_of us t)

pub turn_within : (turns : List ℕ) (t : ℕ) → list_any (nat_eq t) turns ≡ true → turn_of turns t < length turns
turn_within [] t h = absurd cc
turn_within (u ∷ us) t h = by_test (nat_eq t u) h (turn_within us t)
  where
    by_test : (b : Bool) → (b || list_any (nat_eq t) us) ≡ true → (list_any (nat_eq t) us ≡ true → turn_of us t < length us) → (if b then 0 else suc (turn_of us t)) < suc (length us)
    by_test true h r = omega arith
    by_test false h r = let m = r h in omega (arith, m)

pub turn_before : (k : ℕ) (turns : List ℕ) (t : ℕ) → list_any (nat_eq t) (take k turns) ≡ true → turn_of turns t < k
turn_before zero [] t h = absurd cc
turn_before zero (u ∷ us) t h = absurd cc
turn_before (suc k) [] t h = absurd cc
turn_before (suc k) (u ∷ us) t h = by_test (nat_eq t u) h (turn_before k us t)
  where
    by_test : (b : Bool) → (b || list_any (nat_eq t) (take k us)) ≡ true → (list_any (nat_eq t) (take k us) ≡ true → turn_of us t < k) → (if b then 0 else suc (turn_of us t)) < suc k
    by_test true h r = omega arith
    by_test false h r = let m = r h in omega (arith, m)

pub in_turn : (ds : List Declared) (before turns : List ℕ) → AreInTurn ds before turns → (t : ℕ) → list_any (nat_eq t) turns ≡ true →
    All (HasTurned ds (before ++ take (turn_of turns t) turns)) (declared_at ds t).uses
in_turn ds before [] h t k = absurd cc
in_turn ds before (u ∷ us) h t k = by_test (nat_eq t u) refl k (in_turn ds (before ++ u ∷ []) us h.1 t)
  where
    by_test : (b : Bool) → nat_eq t u ≡ b → (b || list_any (nat_eq t) us) ≡ true →
        (list_any (nat_eq t) us ≡ true → All (HasTurned ds ((before ++ u ∷ []) ++ take (turn_of us t) us)) (declared_at ds t).uses) →
        All (HasTurned ds (before ++ take (if b then 0 else suc (turn_of us t)) (u ∷ us))) (declared_at ds t).uses
    by_test true e k r =
        let same : u ≡ t = grind (arith, nat_tests) in
        subst (λ l. All (HasTurned ds l) (declared_at ds t).uses) (sym (append-nil before)) (subst (λ i. All (HasTurned ds before) (declared_at ds i).uses) same h.0)
    by_test false e k r = subst (λ l. All (HasTurned ds l) (declared_at ds t).uses) (append_assoc before (u ∷ []) (take (turn_of us t) us)) (r k)

-- the turns that are left, at each place
pub left_in_turn : (ds : List Declared) (before turns : List ℕ) (k t : ℕ) → AreInTurn ds before turns → slice_get turns k ≡ Some t → All (HasTurned ds (before ++ take k turns)) (declared_at ds t).uses
left_in_turn ds before [] k t h e = absurd cc
left_in_turn ds before (u ∷ us) zero t h e =
    subst (λ l. All (HasTurned ds l) (declared_at ds t).uses) (sym (append-nil before)) (subst (λ i. All (HasTurned ds before) (declared_at ds i).uses) (let s : u ≡ t = cc in s) h.0)
left_in_turn ds before (u ∷ us) (suc k) t h e =
    subst (λ l. All (HasTurned ds l) (declared_at ds t).uses) (append_assoc before (u ∷ []) (take k us)) (left_in_turn ds (before ++ u ∷ []) us k t h.1 e)

-- ---- the turns are ranks
pub all_turns : (turns : List ℕ) → length (turns_from 0 turns) ≡ length turns
all_turns [] = refl
all_turns (t ∷ ts) =
    let late : nat_lt t 0 ≡ false = grind (arith, nat_tests) in
    ap (λ (b : Bool). length (if b then turns_from 0 ts else (t - 0) ∷ turns_from 0 ts)) late ∙ ap suc (all_turns ts)
