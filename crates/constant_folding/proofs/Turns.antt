-- Where constants have their turns after those that they need, the turns are ranks.
use Rattle.std.proofs.Common.{◌≡◌, ℕ, suc, ◌<◌, List, [], ◌∷◌, map, length, take, Bool, true, false, Some, refl, ap, subst, ◌∙◌, arith}
use Rattle.std.specs.Prelude.{slice_get, if◌then◌else◌}
use Rattle.std.specs.List.{All, find}
use Rattle.std.specs.Option.{option_map}
use Rattle.std.proofs.lemmas.List.{length-map}
use Rattle.std.proofs.lemmas.Option.{slice_get-map, slice_get_within, get_or_from_slice_get}
use Rattle.op_trees.specs.Tree.{Tree, AllNames}
use Rattle.op_trees.specs.SeenLaws.{names_then}
use Rattle.op_trees.specs.Names.{is_called}
use Rattle.name_rules.specs.Circles.{Declared, nothing_declared, declared_at, HasTurned, AreTurns}
use Rattle.name_rules.proofs.InTurn.{turn_of, turn_within, turn_before, in_turn, all_turns}
use Rattle.name_rules.specs.Uses.{used}
use Rattle.process_core.specs.Ready.{Name}
use Rattle.constant_folding.specs.Constants.{AnyConst, called, declared, RanksBelow, IsRank, AreRanked}
use Rattle.op_trees.specs.NameLaws.{each_name}

-- ---- the number of a constant
abbrev pub const_at : {O : Type 0} → List (AnyConst O) → Name → ℕ
const_at [] x = 0
const_at (c ∷ cs) x = if is_called x c.name then 0 else suc (const_at cs x)

pub found_const : {O : Type 0} (cs : List (AnyConst O)) (x : Name) (c : AnyConst O) → called cs x ≡ Some c → (slice_get cs (const_at cs x) ≡ Some c) × (is_called x c.name ≡ true)
found_const [] x c h = absurd cc
found_const (d ∷ ds) x c h = by_test (is_called x d.name) refl h (found_const ds x c)
  where
    by_test : (b : Bool) → is_called x d.name ≡ b → (if b then Some d else find (λ e. is_called x e.name) ds) ≡ Some c →
        (find (λ e. is_called x e.name) ds ≡ Some c → (slice_get ds (const_at ds x) ≡ Some c) × (is_called x c.name ≡ true)) →
        (slice_get (d ∷ ds) (if b then 0 else suc (const_at ds x)) ≡ Some c) × (is_called x c.name ≡ true)
    by_test true e h r = (h, subst (λ (k : AnyConst _). is_called x k.name ≡ true) (let s : d ≡ c = cc in s) e)
    by_test false e h r = r h

pub declared_there : {O : Type 0} (cs : List (AnyConst O)) (i : ℕ) (c : AnyConst O) → slice_get cs i ≡ Some c → declared_at (map declared cs) i ≡ declared c
declared_there cs i c h =
    get_or_from_slice_get (map declared cs) i (declared c) nothing_declared (slice_get-map declared cs i ∙ ap (λ o. option_map declared o) h)

-- ---- the turns are ranks
module _ {O : Type 0} (cs : List (AnyConst O)) (turns : List ℕ) (h : AreTurns (map declared cs) turns) where
  abbrev ds : List Declared
  ds = map declared cs

  abbrev rank : Name → ℕ
  rank x = turn_of turns (const_at cs x)

  within_constants : (x : Name) (c : AnyConst O) → called cs x ≡ Some c → const_at cs x < length ds
  within_constants x c k =
      let l = slice_get_within cs (const_at cs x) c (found_const cs x c k).0 in
      let s = length-map cs declared in
      omega (arith, l, s)

  ranks_within : (x : Name) → RanksBelow cs rank (length cs) x
  ranks_within x = record {
    below =
        λ c k.
        let l = turn_within turns (const_at cs x) (h.turned (const_at cs x) (within_constants x c k)) in
        let m = h.counted 0 in
        let n = all_turns turns in
        let s = length-map cs declared in
        omega (arith, l, m, n, s);
  }

  falls : (x : Name) (c : AnyConst O) (e : Tree O) → called cs x ≡ Some c → c.value ≡ Some e → AllNames (RanksBelow cs rank (rank x)) e
  falls x c e k v =
      let p = const_at cs x in
      let at = found_const cs x c k in
      let turned = in_turn ds [] turns h.order p (h.turned p (within_constants x c k)) in
      let before = take (turn_of turns p) turns in
      let names = subst (λ us. All (HasTurned ds before) us) (ap (λ (d : Declared). d.uses) (declared_there cs p c at.0) ∙ ap used v) turned in
      names_then (HasTurned ds before) (RanksBelow cs rank (rank x))
      (λ y g. record {
        below =
            λ d m.
            let q = const_at cs y in
            let there = found_const cs y d m in
            turn_before (turn_of turns p) turns q
            (g q (within_constants y d m) (ap (λ (z : Declared). is_called y z.name) (declared_there cs q d there.0) ∙ there.1));
      }) e (each_name (HasTurned ds before) e names)

  pub ranked : IsRank cs rank
  ranked = record { within = ranks_within; falls = falls }

  pub are_ranked : AreRanked cs
  are_ranked = record { rank = rank; ranked = ranked }
