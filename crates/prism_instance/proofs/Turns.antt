-- Constants that have their turns after those that they need have the values of their expressions.
use Rattle.std.proofs.Common.{◌≡◌, ℕ, suc, ◌<◌, List, [], ◌∷◌, map, length, take, Bool, true, false, Some, refl, sym, ap, subst, ◌∙◌, arith}
use Rattle.std.specs.Prelude.{slice_get, if◌then◌else◌}
use Rattle.std.specs.List.{All, find}
use Rattle.std.specs.Option.{option_map}
use Rattle.std.proofs.lemmas.List.{length-map}
use Rattle.std.proofs.lemmas.Option.{slice_get-map, slice_get_within, get_or_from_slice_get}
use Rattle.op_trees.specs.Tree.{AllNames, written_out}
use Rattle.op_trees.specs.SeenLaws.{names_then}
use Rattle.op_trees.specs.Names.{is_called}
use Rattle.name_rules.specs.Circles.{Declared, nothing_declared, declared_at, HasTurned, AreTurns}
use Rattle.name_rules.proofs.InTurn.{turn_of, turn_within, turn_before, in_turn, all_turns}
use Rattle.name_rules.specs.Uses.{used}
use Rattle.process_core.specs.Ready.{Name}
use Rattle.prism_tree.specs.Syntax.{Expression, Const, File}
use Rattle.prism_names.specs.Names.{formula_body}
use Rattle.prism_names.specs.Order.{whole}
use Rattle.prism_check.specs.Scene.{constant_called}
use Rattle.op_trees.specs.NameLaws.{each_name}
use Rattle.prism_check.specs.ConstantLaws.{RanksBelow, ConstantsHaveValues, constants_have_values}
use Rattle.prism_instance.specs.Constants.{declared_const}

-- ---- the number of a constant
abbrev pub const_at : List Const → Name → ℕ
const_at [] x = 0
const_at (c ∷ cs) x = if is_called x c.name then 0 else suc (const_at cs x)

pub found_const : (cs : List Const) (x : Name) (c : Const) → find (λ d. is_called x d.name) cs ≡ Some c → (slice_get cs (const_at cs x) ≡ Some c) × (is_called x c.name ≡ true)
found_const [] x c h = absurd cc
found_const (d ∷ ds) x c h = by_test (is_called x d.name) refl h (found_const ds x c)
  where
    by_test : (b : Bool) → is_called x d.name ≡ b → (if b then Some d else find (λ e. is_called x e.name) ds) ≡ Some c →
        (find (λ e. is_called x e.name) ds ≡ Some c → (slice_get ds (const_at ds x) ≡ Some c) × (is_called x c.name ≡ true)) →
        (slice_get (d ∷ ds) (if b then 0 else suc (const_at ds x)) ≡ Some c) × (is_called x c.name ≡ true)
    by_test true e h r = (h, subst (λ (k : Const). is_called x k.name ≡ true) (let s : d ≡ c = cc in s) e)
    by_test false e h r = r h

pub declared_there : (cs : List Const) (i : ℕ) (c : Const) → slice_get cs i ≡ Some c → declared_at (map declared_const cs) i ≡ declared_const c
declared_there cs i c h =
    get_or_from_slice_get (map declared_const cs) i (declared_const c) nothing_declared (slice_get-map declared_const cs i ∙ ap (λ o. option_map declared_const o) h)

-- ---- the turns are ranks
module _ (file : File) (form : file.formulas ≡ []) (turns : List ℕ) (h : AreTurns (map declared_const file.constants) turns) where
  abbrev ds : List Declared
  ds = map declared_const file.constants

  abbrev rank : Name → ℕ
  rank x = turn_of turns (const_at file.constants x)

  within_constants : (x : Name) (c : Const) → constant_called file x ≡ Some c → const_at file.constants x < length ds
  within_constants x c k =
      let l = slice_get_within file.constants (const_at file.constants x) c (found_const file.constants x c k).0 in
      let s = length-map file.constants declared_const in
      omega (arith, l, s)

  pub plain_whole : (e : Expression) → whole file e ≡ e
  plain_whole e = ap (λ n. written_out (formula_body file) n e) (ap length form)

  ranks_within : (x : Name) → RanksBelow file rank (length file.constants) x
  ranks_within x = record {
    below =
        λ c k.
        let l = turn_within turns (const_at file.constants x) (h.turned (const_at file.constants x) (within_constants x c k)) in
        let m = h.counted 0 in
        let n = all_turns turns in
        let s = length-map file.constants declared_const in
        omega (arith, l, m, n, s);
  }

  falls : (x : Name) (c : Const) (e : Expression) → constant_called file x ≡ Some c → c.value ≡ Some e → AllNames (RanksBelow file rank (rank x)) (whole file e)
  falls x c e k v =
      let p = const_at file.constants x in
      let at = found_const file.constants x c k in
      let turned = in_turn ds [] turns h.order p (h.turned p (within_constants x c k)) in
      let before = take (turn_of turns p) turns in
      let names = subst (λ us. All (HasTurned ds before) us) (ap (λ (d : Declared). d.uses) (declared_there file.constants p c at.0) ∙ ap used v) turned in
      subst (AllNames (RanksBelow file rank (rank x))) (sym (plain_whole e))
      (names_then (HasTurned ds before) (RanksBelow file rank (rank x))
      (λ y g. record {
        below =
            λ d m.
            let q = const_at file.constants y in
            let there = found_const file.constants y d m in
            turn_before (turn_of turns p) turns q
            (g q (within_constants y d m) (ap (λ (z : Declared). is_called y z.name) (declared_there file.constants q d there.0) ∙ there.1));
      }) e (each_name (HasTurned ds before) e names))

  pub have_values : ConstantsHaveValues file
  have_values = constants_have_values file rank (record { within = ranks_within; falls = falls })
