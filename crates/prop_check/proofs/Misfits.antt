-- The fault of an expression that has no type, at its least misfit.
use Rattle.std.specs.Prelude.{ℕ, List, [], ◌++◌, map, Bool, false, not, Option, Some, None, IsTrue, is_some, Contains}
use Rattle.std.proofs.Common.{◌≡◌, refl, sym, ap, ap₂, subst, ◌∙◌, arith}
use Rattle.bridge_io.specs.declared.reason.Reason.TheVariants.{WrongType}
use Rattle.bridge_io.specs.declared.reason.Fault.{Fault}
use Rattle.op_trees.specs.declared.tree.Ty.{Ty}
use Rattle.op_trees.specs.Types.{type_in, misfits, IsLeast}
use Rattle.op_trees.specs.TypeLaws.{misfits_none}
use Rattle.op_trees.specs.Names.{offset_of}
use Rattle.name_rules.specs.Least.{sooner, soonest, fault, fault_if}
use Rattle.name_rules.proofs.Misfits.{at_least}
use Rattle.name_rules.proofs.Append.{soonest_then}
use Rattle.prism_tree.specs.Operators.{prism_meaning}
use Rattle.prism_tree.specs.Syntax.{Expression, File}
use Rattle.op_trees.specs.Wanted.{is_wanted, is_unwanted}
use Rattle.prop_trees.specs.Trees.{Role}
use Rattle.prop_trees.specs.PrismFaults.{name_types, type_faults_of, wanted_of}

module _ (file : File) (r : Role) (e : Expression) where
  abbrev found : Option Ty
  found = type_in prism_meaning (name_types file) e

  abbrev places : List ℕ
  places = misfits prism_meaning (name_types file) e

  none_misfit : (t : Ty) → found ≡ Some t → places ≡ []
  none_misfit t h = (misfits_none prism_meaning (name_types file) e).1 (subst (λ o. IsTrue (is_some o)) (sym h) refl)

  -- an expression with a type
  pub of_type : (t : Ty) (test : Bool) (at : ℕ) (best result : Option Fault) → found ≡ Some t → test ≡ not (is_wanted (wanted_of r) t) → at ≡ offset_of e →
      result ≡ soonest best (fault_if test at WrongType) → result ≡ soonest best (type_faults_of file r e)
  of_type t test at best result h same place is =
      is
      ∙ ap₂ (λ b o. soonest best (fault_if b o WrongType)) same place
      ∙ ap (λ o. soonest best (fault_if (is_unwanted (wanted_of r) o) (offset_of e) WrongType)) (sym h)
      ∙ ap (λ ms. soonest best (map (λ at. fault at WrongType) ms ++ fault_if (is_unwanted (wanted_of r) found) (offset_of e) WrongType)) (sym (none_misfit t h))

  not_unwanted : (n : ℕ) → IsLeast n places → is_unwanted (wanted_of r) found ≡ false
  not_unwanted n l = by_type found refl
    where
      by_type : (o : Option Ty) → found ≡ o → is_unwanted (wanted_of r) found ≡ false
      by_type None h = ap (is_unwanted (wanted_of r)) h
      by_type (Some t) h = absurd (let none : Contains [] n = subst (λ xs. Contains xs n) (none_misfit t h) l.stands in omega (arith, none.1))

  -- an expression without a type
  pub of_misfit : (n : ℕ) (best result : Option Fault) → IsLeast n places → result ≡ sooner best (fault n WrongType) → result ≡ soonest best (type_faults_of file r e)
  of_misfit n best result l is =
      is
      ∙ sym (at_least n places best l)
      ∙ ap (λ b. soonest (soonest best (map (λ at. fault at WrongType) places)) (fault_if b (offset_of e) WrongType)) (sym (not_unwanted n l))
      ∙ soonest_then best (soonest best (map (λ at. fault at WrongType) places)) (map (λ at. fault at WrongType) places)
      (fault_if (is_unwanted (wanted_of r) found) (offset_of e) WrongType) refl
