-- What the program's stores and evaluations stand for. (This project's own rule.)
use Rattle.std.specs.Prelude.{◌≡◌, ℕ, List, Option}
use Rattle.std.proofs.Common.{refl, ap, ◌∙◌}
use Rattle.std.specs.declared.cmp.PartialEq as PartialEq
use Rattle.op_trees.specs.declared.operator.Operator as Operator
use Rattle.op_trees.specs.Seen.{Seen}
use Rattle.op_trees.specs.declared.tree.Value.{Value}
use Rattle.instance_start.specs.Columns.{value_at}
use Rattle.expr_store.specs.Nodes.{seen_at}
use Rattle.expr_store.specs.declared.node.ExprId.{ExprId}
use Rattle.expr_store.specs.declared.node.Node.{Node}
use Rattle.expr_store.specs.declared.store.ExprStore.{ExprStore}
use Rattle.expr_store.specs.declared.evaluation.Evaluation.{Evaluation}

abbrev pub nodes : {O : Type 0} → ExprStore O → List (Node O)
nodes store = store.nodes.items

module _ {O : Type 0} {given : Operator.Ghosts O} {compared : PartialEq.Ghosts O} where
  -- what an evaluation sees of a node, and of an expression
  abbrev pub seen_of : Evaluation O given compared → ℕ → Seen
  seen_of e i = seen_at given.meaning (value_at e.values.now e.constants.now) (nodes e.store.now) i

  abbrev pub seen_by : Evaluation O given compared → ExprId → Seen
  seen_by e id = seen_of e id.number

  -- an evaluation is of the same store in the same state as another one
  pub record IsSame (old new : Evaluation O given compared) : Type 0 where
    pub store : new.store.now ≡ old.store.now
    pub values : new.values.now ≡ old.values.now
    pub constants : new.constants.now ≡ old.constants.now

  -- an evaluation is of this store in this state
  pub record LooksIn (e : Evaluation O given compared) (exprs : ExprStore O) (state : List Value) (fixed : List (Option Value)) : Type 0 where
    pub store : e.store.now ≡ exprs
    pub values : e.values.now ≡ state
    pub constants : e.constants.now ≡ fixed

  -- it sees the same
  pub same_seen : {old new : Evaluation O given compared} → IsSame old new → seen_of new ≡ seen_of old
  same_seen {old = old} {new = new} s =
      ap (λ st i. seen_at given.meaning (value_at new.values.now new.constants.now) (nodes st) i) s.store
      ∙ ap (λ vs i. seen_at given.meaning (value_at vs new.constants.now) (nodes old.store.now) i) s.values
      ∙ ap (λ ks i. seen_at given.meaning (value_at old.values.now ks) (nodes old.store.now) i) s.constants

  pub same_by : {old new : Evaluation O given compared} → IsSame old new → seen_by new ≡ seen_by old
  same_by s = ap (λ see id. see id.number) (same_seen s)

  pub same_none : (e : Evaluation O given compared) → IsSame e e
  same_none e = record { store = refl; values = refl; constants = refl }

  pub same_then : {a b c : Evaluation O given compared} → IsSame a b → IsSame b c → IsSame a c
  same_then s t = record { store = t.store ∙ s.store; values = t.values ∙ s.values; constants = t.constants ∙ s.constants }
