-- The values of the tests have their types.
use Rattle.std.specs.Prelude.{◌≡◌, ℕ, ℤ, pos, List, [], ◌∷◌, Bool, true, false, Option, Some, None, IsTrue, if◌then◌else◌}
use Rattle.std.specs.Str.{bytes_eq}
use Rattle.std.proofs.Common.{ap, subst, eq-eqb}
use Rattle.frac_core.specs.Fraction.{Fraction, is_wide, quotient, whole}
use Rattle.frac_core.specs.Laws.{fraction_self}
use Rattle.op_trees.specs.declared.tree.Ty.TheVariants as T
use Rattle.op_trees.specs.declared.tree.Value.{Value}
use Rattle.op_trees.specs.declared.tree.Value.TheVariants as V
use Rattle.op_trees.specs.Types.{AgreesWith, has_type}
use Rattle.part_bench.specs.Point.{point_types, point_values}

chosen_typed : (b w : Bool) (q : Fraction) (v : Value) → q.den ≡ 1 → ◌≡◌ {A = Option Value} (if b then (if w then None else Some (V.Number q)) else None) (Some v) → IsTrue (has_type T.Int v)
chosen_typed true true q v d h = cc
chosen_typed true false q v d h = subst (λ u. IsTrue (has_type T.Int u)) (let e : V.Number q ≡ v = cc in e) (eq-eqb _ _ d)
chosen_typed false w q v d h = cc

pub point_typed : (x : ℤ) (name : List ℕ) → AgreesWith (point_types name) (point_values x name)
point_typed x name = record {
  agrees = λ t v h k.
      subst (λ u. IsTrue (has_type u v)) (let e : T.Int ≡ t = cc in e)
      (chosen_typed (bytes_eq name (120 ∷ [])) (is_wide (quotient x (pos 1))) (quotient x (pos 1)) v (ap (λ f. f.den) (fraction_self (whole x))) k);
}
