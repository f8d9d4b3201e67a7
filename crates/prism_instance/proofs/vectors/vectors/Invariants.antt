use Rattle.std.proofs.Common.{List, ℕ, map, take}
use Rattle.expr_store.specs.Alike.{IsMade}
use Rattle.expr_store.specs.Views.{nodes}
use Rattle.gathering.specs.Lists.{list_under}
use Rattle.process_core.specs.Ready.{Sum}
use Rattle.prism_tree.specs.Operators.{prism_meaning}
use Rattle.prism_instance.specs.Sites.{earned_of, linked_at, linked_with, texts_of}
use Rattle.prism_instance.specs.Views.{places_in}
use Rattle.prism_instance.proofs.vectors.vectors.Given as goal

abbrev pub invariant-loop-action : goal.invariant-loop-action
invariant-loop-action l =
    (n : ℕ) (shared : List Sum) → IsMade prism_meaning (places_in l.names) (nodes l.fn.store) (nodes l.store) (λ at. map (λ v. linked_at at n shared v) l.all.items)
    (λ seen. map (λ a. linked_with seen n (λ x. map earned_of (list_under l.items x)) (λ x. list_under l.links x) a) (texts_of (take l.action-index l.actions)))
