-- Known constants have values of their types, where given values fit and the expressions of constants have the types that are wanted.
use Rattle.std.specs.Prelude.{◌≡◌, ℕ, zero, suc, List, length, true, Option, Some, None, IsTrue}
use Rattle.std.proofs.Common.{refl, subst}
use Rattle.frac_core.specs.Decimal.{is_normal}
use Rattle.op_trees.specs.declared.tree.Ty.{Ty}
use Rattle.op_trees.specs.declared.tree.Value.{Value}
use Rattle.op_trees.specs.Meaning.{Meaning}
use Rattle.op_trees.specs.Operators.{IsLawful}
use Rattle.op_trees.specs.Tree.{Tree, AllNumbers}
use Rattle.op_trees.specs.Types.{Types, has_type, type_in}
use Rattle.op_trees.specs.Wanted.{is_wanted, wanted_by, wider}
use Rattle.process_core.specs.Ready.{Name}
use Rattle.process_core.specs.Instance.{Valuation}
use Rattle.constant_folding.specs.declared.known.Fixed.{Fixed}
use Rattle.constant_folding.specs.Known.{summary, worth}
use Rattle.constant_folding.specs.Kept.{AreTyped, GivesTypes}
use Rattle.constant_folding.specs.Literals.{AreLiterals}
use Rattle.constant_folding.specs.Monotone.{IsMonotone}
use Rattle.constant_folding.specs.Constants.{AnyConst, called, fixed_as, known_by, known_const, known_within, known_constants}
use Rattle.constant_folding.specs.Unfit.{AreFitting}
use Rattle.constant_folding.proofs.Typed.{worth_typed}

-- an expression has a type that is wanted where that of the constant is, and its numbers are in normal form
pub record HasWanted {O : Type 0} (m : Meaning O) (types : Types) (ty : Ty) (e : Tree O) : Type 0 where
  pub own : Ty
  pub is : type_in m types e ≡ Some own
  pub wanted : is_wanted (wanted_by ty) own ≡ true
  pub normal : AllNumbers (λ d. IsTrue (is_normal d)) e

module _ {O : Type 0} (m : Meaning O) (lawful : IsLawful m) (monotone : IsMonotone m) (literal : Value → Ty → Tree O) (literals : AreLiterals m literal)
    (cs : List (AnyConst O)) (given : Valuation) (types : Types) (fitting : AreFitting cs given)
    (own_type : (x : Name) (c : AnyConst O) → called cs x ≡ Some c → types x ≡ Some c.ty)
    (wanted : (x : Name) (c : AnyConst O) (e : Tree O) → called cs x ≡ Some c → c.value ≡ Some e → HasWanted m types c.ty e) where
  record IsTyped (x : Name) (k : Fixed) : Type 0 where
    typed : IsTrue (has_type k.ty k.value)
    declared : types x ≡ Some k.ty

  of_fixed : (x : Name) (c : AnyConst O) (k : Fixed) (o : Option Value) → called cs x ≡ Some c → ((y : Value) → o ≡ Some y → IsTrue (has_type c.ty y)) →
      fixed_as c.ty o ≡ Some k → IsTyped x k
  of_fixed x c k None h f e = absurd cc
  of_fixed x c k (Some y) h f e =
      let same : record { value = y; ty = c.ty } ≡ k = cc in
      subst (IsTyped x) same (record { typed = f y refl; declared = own_type x c h })

  of_worth : (n : ℕ) → ((y : Name) (k : Fixed) → known_within m cs given n y ≡ Some k → IsTyped y k) → (x : Name) (c : AnyConst O) (e : Tree O) → called cs x ≡ Some c →
      c.value ≡ Some e → (y : Value) → worth (summary m (known_within m cs given n) e) ≡ Some y → IsTrue (has_type c.ty y)
  of_worth n ih x c e h v y w =
      let has = wanted x c e h v in
      let told =
      worth_typed m lawful monotone literal literals (known_within m cs given n)
      (record { typed = λ z k g. (ih z k g).typed }) types (record { gives = λ z k g. (ih z k g).declared }) e y has.own has.normal w has.is in
      wider c.ty has.own y has.wanted told.1

  known_at : (n : ℕ) (x : Name) (k : Fixed) → known_within m cs given n x ≡ Some k → IsTyped x k
  known_at zero x k h = absurd cc
  known_at (suc n) x k h = by_const (known_at n) (called cs x) refl h
    where
      by_value : ((y : Name) (k : Fixed) → known_within m cs given n y ≡ Some k → IsTyped y k) → (c : AnyConst O) → called cs x ≡ Some c → (o : Option (Tree O)) → c.value ≡ o →
          known_by m (given x) (known_within m cs given n) c.ty o ≡ Some k → IsTyped x k
      by_value ih c e None v h = of_fixed x c k (given x) e (λ y g. fitting.fitting x c y e g) h
      by_value ih c e (Some t) v h =
          of_fixed x c k (worth (summary m (known_within m cs given n) t)) e (λ y g. of_worth n ih x c t e v y g) h

      by_const : ((y : Name) (k : Fixed) → known_within m cs given n y ≡ Some k → IsTyped y k) → (o : Option (AnyConst O)) → called cs x ≡ o →
          known_const m (given x) (known_within m cs given n) o ≡ Some k → IsTyped x k
      by_const ih None e h = absurd cc
      by_const ih (Some c) e h = by_value ih c e c.value refl h

  pub known_typed : AreTyped (known_constants m cs given)
  known_typed = record { typed = λ x k h. (known_at (length cs) x k h).typed }

  pub known_types : GivesTypes (known_constants m cs given) types
  known_types = record { gives = λ x k h. (known_at (length cs) x k h).declared }
