-- The answer of an evaluation, as it is seen.
use Rattle.std.proofs.Common.{◌≡◌, ◌∙◌, ap, ap₂}
use Rattle.expr_store.specs.Nodes.{seen_at}
use Rattle.expr_store.specs.Views.{IsSame, nodes, seen_by}
use Rattle.expr_store.specs.declared.evaluation.Evaluation.{Evaluation}
use Rattle.expr_store.specs.declared.node.ExprId.{ExprId}
use Rattle.instance_start.specs.Columns.{value_at}
use Rattle.jani_table.specs.declared.operator.JaniOp.{JaniOp}
use Rattle.op_trees.specs.declared.operator.Operator as Operator
use Rattle.std.specs.declared.cmp.PartialEq as PartialEq
use Rattle.op_trees.specs.Meaning.{Environment, answer}
use Rattle.op_trees.specs.Seen.{known_names}
use Rattle.op_trees.specs.SeenLaws.{answer_is}
use Rattle.jani_table.specs.Operators.{jani_meaning}
use Rattle.jani_tree.specs.Syntax.{Expression}
use Rattle.jani_meaning.specs.Scene.{see}
use Rattle.state_choices.specs.Trimmed.{computed}
use Rattle.jani_instance.specs.Views.{IsIn, Setting}

pub answers_seen : (t : Expression) (env : Environment) → answer jani_meaning t env ≡ computed (see t (known_names env))
unfolding see
answers_seen t env = answer_is jani_meaning env t

-- in a state
module _ {given : Operator.Ghosts JaniOp} {compared : PartialEq.Ghosts JaniOp} where
  pub sees_here : (k : Setting) (e : Evaluation JaniOp given compared) (id : ExprId) → IsIn k e → seen_by e id ≡ seen_at given.meaning (value_at k.values k.constants) (nodes k.store) id.number
  sees_here k e id h =
      ap₂ (λ at ns. seen_at given.meaning at ns id.number) (ap₂ value_at h.values h.constants) (ap nodes h.store)

  pub goes_on : (k : Setting) (old new : Evaluation JaniOp given compared) → IsIn k old → IsSame old new → IsIn k new
  goes_on k old new h s = record { store = s.store ∙ h.store; values = s.values ∙ h.values; constants = s.constants ∙ h.constants }
