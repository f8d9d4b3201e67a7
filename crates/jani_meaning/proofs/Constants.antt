-- Where constants lead round in no circle, a constant has the value of its expression.
use Rattle.std.specs.Prelude.{◌≡◌, ℕ, zero, suc, ◌<◌, length, Option, Some, None}
use Rattle.std.proofs.Common.{refl, ap, arith}
use Rattle.op_trees.specs.Tree.{AllNames}
use Rattle.op_trees.specs.Seen.{Seen, known}
use Rattle.op_trees.specs.SeenLaws.{names_then, seen_agree_on}
use Rattle.process_core.specs.Ready.{Name}
use Rattle.jani_tree.specs.Operators.{jani_meaning}
use Rattle.jani_tree.specs.Syntax.{Expression, Const, File}
use Rattle.process_core.specs.Instance.{Valuation}
use Rattle.jani_meaning.specs.Scene.{see, constant_called, constant_seen, constant_value, constant_within}
use Rattle.jani_meaning.specs.Laws.{RanksBelow, IsConstantRank, ConstantsHaveValues}

see_agree_on : (e : Expression) (names new : Name → Seen) → AllNames (λ x. names x ≡ new x) e → see e names ≡ see e new
unfolding see
see_agree_on e names new h = seen_agree_on jani_meaning e names new h

module _ (file : File) (rank : Name → ℕ) (ranked : IsConstantRank file rank) (v : Valuation) where
  abbrev names_to : ℕ → Name → Seen
  names_to n x = known (constant_within file v n x)

  expression_settles : (n : ℕ) → ((y : Name) → RanksBelow file rank n y → constant_within file v n y ≡ constant_within file v (suc n) y) →
      (x : Name) (c : Const) → constant_called file x ≡ Some c → RanksBelow file rank (suc n) x → (o : Option Expression) → c.value ≡ o →
      constant_seen (v x) (names_to n) o ≡ constant_seen (v x) (names_to (suc n)) o
  expression_settles n ih x c k f None e = refl
  expression_settles n ih x c k f (Some t) e =
      let low : rank x < suc n = f.below c k in
      see_agree_on t (names_to n) (names_to (suc n))
      (names_then (RanksBelow file rank (rank x)) (λ y. names_to n y ≡ names_to (suc n) y)
      (λ y g. ap known (ih y (record {
        below = λ d h. let deep : rank y < rank x = g.below d h in omega arith;
      }))) t (ranked.falls x c t k e))

  constant_settles : (n : ℕ) → ((y : Name) → RanksBelow file rank n y → constant_within file v n y ≡ constant_within file v (suc n) y) →
      (x : Name) (o : Option Const) → constant_called file x ≡ o → RanksBelow file rank (suc n) x →
      constant_value (v x) (names_to n) o ≡ constant_value (v x) (names_to (suc n)) o
  constant_settles n ih x None k f = refl
  constant_settles n ih x (Some c) k f = ap (λ s. s.value) (expression_settles n ih x c k f c.value refl)

  no_constant : (x : Name) (o : Option Const) → constant_called file x ≡ o → RanksBelow file rank 0 x → None ≡ constant_value (v x) (names_to zero) o
  no_constant x None k f = refl
  no_constant x (Some c) k f = absurd (let low : rank x < 0 = f.below c k in omega arith)

  settled : (n : ℕ) (x : Name) → RanksBelow file rank n x → constant_within file v n x ≡ constant_within file v (suc n) x
  settled zero x f = no_constant x (constant_called file x) refl f
  settled (suc n) x f = constant_settles n (settled n) x (constant_called file x) refl f

pub constants_have_values : (file : File) (rank : Name → ℕ) → IsConstantRank file rank → ConstantsHaveValues file
constants_have_values file rank ranked v x = settled file rank ranked v (length file.constants) x (ranked.within x)
