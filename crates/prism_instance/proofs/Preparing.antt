-- What is put into a store, part by part.
use Rattle.std.proofs.Common.{◌≡◌, List, ◌++◌, Option, refl, sym, ◌∙◌}
use Rattle.op_trees.specs.Seen.{Seen, known_names, seen}
use Rattle.process_core.specs.Ready.{Name}
use Rattle.instance_start.specs.declared.data.Place.{Place}
use Rattle.expr_store.specs.Alike.{IsMade, alike_same, made_put}
use Rattle.expr_store.specs.NodeLaws.{grown_none}
use Rattle.expr_store.specs.Nodes.{IsGrown, Stands, seen_at}
use Rattle.expr_store.specs.declared.node.ExprId.{ExprId}
use Rattle.expr_store.specs.declared.node.Node.{Node}
use Rattle.prism_names.specs.Names.{see}
use Rattle.prism_tree.specs.declared.operator.PrismOp.{PrismOp}
use Rattle.prism_tree.specs.Operators.{prism_meaning}
use Rattle.prism_tree.specs.Syntax.{Expression}

see_is : (t : Expression) (names : Name → Seen) → seen prism_meaning t names ≡ see t names
unfolding see
see_is t names = refl

module _ (places : Name → Option Place) where
  -- what comes to the same may be said in another way
  pub made_agree : {X : Type 0} (old new : List (Node PrismOp)) (F F' : (ExprId → Seen) → X) (G G' : (Name → Seen) → X) →
      ((at : ExprId → Seen) → F at ≡ F' at) → ((names : Name → Seen) → G names ≡ G' names) → IsMade prism_meaning places old new F G → IsMade prism_meaning places old new F' G'
  made_agree old new F F' G G' e k h = record {
    grown = h.grown;
    made = record { alike = λ later there. sym (e (λ id. seen_at prism_meaning there (new ++ later) id.number)) ∙ h.made.alike later there ∙ k (known_names (λ x. there (places x))) };
  }

  -- an expression that was put
  pub seen_put : (old new : List (Node PrismOp)) (id : ExprId) (t : Expression) → IsGrown old new → Stands prism_meaning places new id.number t →
      IsMade prism_meaning places old new (λ at. at id) (λ names. see t names)
  seen_put old new id t g s = made_agree old new (λ at. at id) (λ at. at id) (λ names. seen prism_meaning t names) (λ names. see t names) (λ at. refl) (see_is t) (made_put id t g s)

  -- a missing probability
  pub made_same : {X : Type 0} (ns : List (Node PrismOp)) (x : X) → IsMade prism_meaning places ns ns (λ at. x) (λ names. x)
  made_same ns x = record { grown = grown_none ns; made = alike_same x }
