-- The least of the misfits of a node, by those of its operands.
use Rattle.std.specs.Prelude.{ℕ, ◌&&◌, Option, is_some}
use Rattle.std.proofs.Common.{◌≡◌, sym, ap, ap₂, ◌∙◌}
use Rattle.bridge_io.specs.declared.reason.Fault.{Fault}
use Rattle.op_trees.specs.declared.tree.Ty.{Ty}
use Rattle.op_trees.specs.Tree.{One, Two, Three}
use Rattle.op_trees.specs.Types.{Types, misfit_at, sort_one, sort_two, sort_three, type_in}
use Rattle.prism_tree.specs.declared.operator.PrismOp.{PrismOp}
use Rattle.prism_tree.specs.Operators.{prism_meaning}
use Rattle.prism_tree.specs.Syntax.{Expression}
use Rattle.prism_check.specs.TypeFaults.{misfits}
use Rattle.prism_check.specs.Typing.{soonest_at, wrong}
use Rattle.prism_check.proofs.TypesPlaced.{wrong_two, wrong_three, wrong_four}

module _ (ty : Types) (place : Option ℕ) (e : Expression) (at : ℕ) (o : PrismOp) (best : Option Fault) where
  pub one_is : (a : Expression) (x : Option Ty) (first last : Option Fault) → e ≡ One at o a → x ≡ type_in prism_meaning ty a →
      first ≡ soonest_at place best (wrong (misfits ty a)) →
      last ≡ soonest_at place first (wrong (misfit_at at (is_some x) (sort_one prism_meaning o x))) → last ≡ soonest_at place best (wrong (misfits ty e))
  one_is a x first last is tx p q =
      wrong_two place (misfits ty a) (misfit_at at (is_some (type_in prism_meaning ty a)) (type_in prism_meaning ty (One at o a))) best first last p
      (q ∙ ap (λ s. soonest_at place first (wrong (misfit_at at (is_some s) (sort_one prism_meaning o s)))) tx)
      ∙ ap (λ t. soonest_at place best (wrong (misfits ty t))) (sym is)

  pub two_is : (a b : Expression) (x y : Option Ty) (first second last : Option Fault) → e ≡ Two at o a b → x ≡ type_in prism_meaning ty a → y ≡ type_in prism_meaning ty b →
      first ≡ soonest_at place best (wrong (misfits ty a)) → second ≡ soonest_at place first (wrong (misfits ty b)) →
      last ≡ soonest_at place second (wrong (misfit_at at (is_some x && is_some y) (sort_two prism_meaning o x y))) → last ≡ soonest_at place best (wrong (misfits ty e))
  two_is a b x y first second last is tx t_y p q r =
      wrong_three place (misfits ty a) (misfits ty b)
      (misfit_at at (is_some (type_in prism_meaning ty a) && is_some (type_in prism_meaning ty b)) (type_in prism_meaning ty (Two at o a b))) best first second last p q
      (r ∙ ap₂ (λ s t. soonest_at place second (wrong (misfit_at at (is_some s && is_some t) (sort_two prism_meaning o s t)))) tx t_y)
      ∙ ap (λ t. soonest_at place best (wrong (misfits ty t))) (sym is)

  pub three_is : (a b c : Expression) (x y z : Option Ty) (first second third last : Option Fault) → e ≡ Three at o a b c → x ≡ type_in prism_meaning ty a →
      y ≡ type_in prism_meaning ty b → z ≡ type_in prism_meaning ty c →
      first ≡ soonest_at place best (wrong (misfits ty a)) → second ≡ soonest_at place first (wrong (misfits ty b)) → third ≡ soonest_at place second (wrong (misfits ty c)) →
      last ≡ soonest_at place third (wrong (misfit_at at (is_some x && (is_some y && is_some z)) (sort_three prism_meaning o x y z))) →
      last ≡ soonest_at place best (wrong (misfits ty e))
  three_is a b c x y z first second third last is tx t_y tz p q r s =
      wrong_four place (misfits ty a) (misfits ty b) (misfits ty c)
      (misfit_at at (is_some (type_in prism_meaning ty a) && (is_some (type_in prism_meaning ty b) && is_some (type_in prism_meaning ty c))) (type_in prism_meaning ty (Three at o a b c)))
      best first second third last p q r
      (s
      ∙ ap (λ w. soonest_at place third (wrong (misfit_at at (is_some w && (is_some y && is_some z)) (sort_three prism_meaning o w y z)))) tx
      ∙ ap₂ (λ v w. soonest_at place third
      (wrong (misfit_at at (is_some (type_in prism_meaning ty a) && (is_some v && is_some w)) (sort_three prism_meaning o (type_in prism_meaning ty a) v w)))) t_y tz)
      ∙ ap (λ t. soonest_at place best (wrong (misfits ty t))) (sym is)
