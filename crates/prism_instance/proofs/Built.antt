-- Parts that are built of a file, where the store goes on.
use Rattle.std.proofs.Common.{◌≡◌, ◌∙◌, List, [], None, Option, ap, length, map, sym}
use Rattle.std.proofs.lemmas.List.{length-map}
use Rattle.op_trees.specs.Seen.{known_names}
use Rattle.process_core.specs.Instance.{Column}
use Rattle.process_core.specs.Ready.{Name}
use Rattle.instance_start.specs.Numbered.{with_value}
use Rattle.instance_start.specs.declared.data.Place.{Place}
use Rattle.expr_store.specs.Alike.{alike_here, alike_later}
use Rattle.expr_store.specs.Nodes.{IsGrown, seen_at}
use Rattle.expr_store.specs.declared.node.ExprId.{ExprId}
use Rattle.expr_store.specs.declared.node.Node.{Node}
use Rattle.prism_tree.specs.Operators.{prism_meaning}
use Rattle.prism_tree.specs.Syntax.{File}
use Rattle.prism_tree.specs.declared.operator.PrismOp.{PrismOp}
use Rattle.prism_names.specs.Names.{see}
use Rattle.network.specs.Views.{component_at, earned_at, value_by}
use Rattle.prism_instance.specs.Built.{HasChoices, HasMarks}
use Rattle.prism_instance.specs.Shapes.{acting, bodies, earnings, item_under}
use Rattle.prism_instance.specs.Sites.{acts_of, linked_at, linked_under, links_among, member_under, sorted}
use Rattle.prism_instance.specs.declared.parts.ChoiceParts.{ChoiceParts}
use Rattle.prism_instance.specs.declared.parts.StateParts.{StateParts}

pub choices_later : (file : File) (places : Name → Option Place) (cs : List Column) (old new : List (Node PrismOp)) (c : ChoiceParts) → IsGrown old new → HasChoices file places cs old c → HasChoices file places cs new c
choices_later file places cs old new c g h = record {
  components = λ s. alike_later (λ look. map (λ k. component_at cs look s k) c.components.items) (λ seen. map (λ k. member_under cs seen k) (map sorted (bodies file.modules))) g (h.components s);
  vectors = λ n shared.
      alike_later (λ look. map (λ v. linked_at look n shared v) c.vectors.items)
      (λ seen. map (λ a. linked_under seen n file.rewards (λ x. links_among x (map acts_of (bodies file.modules))) a) (acting (bodies file.modules))) g (h.vectors n shared);
  silent = alike_later (λ look. map (λ e. earned_at look e) c.silent.items) (λ seen. map (λ e. with_value (item_under seen) e) (earnings file.rewards None)) g h.silent;
}

-- there are as many labels as the file has
pub label_count : (file : File) (places : Name → Option Place) (ns : List (Node PrismOp)) (m : StateParts) → HasMarks file places ns m → length m.labels.items ≡ length file.labels
label_count file places ns m h =
    let look : ExprId → _ = λ id. seen_at prism_meaning (λ o. None) ns id.number in
    let names = known_names (λ x. None) in
    sym (length-map m.labels.items (λ l. value_by look [] l))
    ∙ ap length (alike_here (λ look. map (λ l. value_by look [] l) m.labels.items) (λ seen. map (λ l. see l.body seen) file.labels) (h.labelled []) (λ o. None))
    ∙ length-map file.labels (λ l. see l.body names)
