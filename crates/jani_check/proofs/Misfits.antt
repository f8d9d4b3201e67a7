-- The fault of an expression that has no type, at its least misfit.
use Rattle.std.specs.Prelude.{ℕ, [], ◌++◌, map, Bool, false, not, Option, Some, None, IsTrue, is_some, Contains}
use Rattle.std.proofs.Common.{◌≡◌, refl, sym, ap, ap₂, subst, ◌∙◌, arith}
use Rattle.bridge_io.specs.declared.reason.Reason.TheVariants.{WrongType}
use Rattle.bridge_io.specs.declared.reason.Fault.{Fault}
use Rattle.op_trees.specs.declared.tree.Ty.{Ty}
use Rattle.op_trees.specs.Types.{Types, type_in, misfits, IsLeast}
use Rattle.op_trees.specs.TypeLaws.{misfits_none}
use Rattle.name_rules.specs.Least.{sooner, soonest, fault, fault_if}
use Rattle.jani_table.specs.Operators.{jani_meaning}
use Rattle.jani_tree.specs.Syntax.{Expression}
use Rattle.op_trees.specs.Names.{offset_of}
use Rattle.op_trees.specs.declared.wanted.Wanted.{Wanted}
use Rattle.op_trees.specs.Wanted.{is_wanted, is_unwanted}
use Rattle.jani_check.specs.TypeFaults.{type_faults_of}
use Rattle.name_rules.proofs.Misfits.{at_least}
use Rattle.name_rules.proofs.Append.{soonest_then}

none_misfit : (types : Types) (e : Expression) (t : Ty) → type_in jani_meaning types e ≡ Some t → misfits jani_meaning types e ≡ []
none_misfit types e t h = (misfits_none jani_meaning types e).1 (subst (λ o. IsTrue (is_some o)) (sym h) refl)

-- an expression with a type
pub of_type : (types : Types) (wanted : Wanted) (e : Expression) (t : Ty) (test : Bool) (at : ℕ) (best result : Option Fault) →
    type_in jani_meaning types e ≡ Some t → test ≡ not (is_wanted wanted t) → at ≡ offset_of e → result ≡ soonest best (fault_if test at WrongType) →
    result ≡ soonest best (type_faults_of types wanted e)
of_type types wanted e t test at best result h same place is =
    is
    ∙ ap₂ (λ b o. soonest best (fault_if b o WrongType)) same place
    ∙ ap (λ o. soonest best (fault_if (is_unwanted wanted o) (offset_of e) WrongType)) (sym h)
    ∙ ap (λ ms. soonest best (map (λ at. fault at WrongType) ms ++ fault_if (is_unwanted wanted (type_in jani_meaning types e)) (offset_of e) WrongType))
    (sym (none_misfit types e t h))

not_unwanted : (types : Types) (wanted : Wanted) (e : Expression) (n : ℕ) → IsLeast n (misfits jani_meaning types e) →
    is_unwanted wanted (type_in jani_meaning types e) ≡ false
not_unwanted types wanted e n l = by_type (type_in jani_meaning types e) refl
  where
    by_type : (o : Option Ty) → type_in jani_meaning types e ≡ o → is_unwanted wanted (type_in jani_meaning types e) ≡ false
    by_type None h = ap (is_unwanted wanted) h
    by_type (Some t) h = absurd (let none : Contains [] n = subst (λ xs. Contains xs n) (none_misfit types e t h) l.stands in omega (arith, none.1))

-- an expression without a type
pub of_misfit : (types : Types) (wanted : Wanted) (e : Expression) (n : ℕ) (best result : Option Fault) → IsLeast n (misfits jani_meaning types e) →
    result ≡ sooner best (fault n WrongType) → result ≡ soonest best (type_faults_of types wanted e)
of_misfit types wanted e n best result l is =
    is
    ∙ sym (at_least n (misfits jani_meaning types e) best l)
    ∙ ap (λ b. soonest (soonest best (map (λ at. fault at WrongType) (misfits jani_meaning types e))) (fault_if b (offset_of e) WrongType))
    (sym (not_unwanted types wanted e n l))
    ∙ soonest_then best (soonest best (map (λ at. fault at WrongType) (misfits jani_meaning types e))) (map (λ at. fault at WrongType) (misfits jani_meaning types e))
    (fault_if (is_unwanted wanted (type_in jani_meaning types e)) (offset_of e) WrongType) refl
