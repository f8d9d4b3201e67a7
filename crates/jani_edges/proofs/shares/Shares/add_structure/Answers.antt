use Rattle.std.specs.Prelude.{List, [], ◌++◌, map, take, if◌then◌else◌}
use Rattle.std.specs.List.{filter, list_any}
use Rattle.std.proofs.Common.{◌∙◌, ap, refl, take_all}
use Rattle.gathering.proofs.Loops.{any_next}
use Rattle.prism_tree.specs.declared.syntax.PrismItem.{PrismItem}
use Rattle.prism_tree.specs.Syntax.{Item, item_of}
use Rattle.jani_translation.specs.Parts.{instead_if}
use Rattle.jani_translation.specs.Automata.{for_action, sum_to}
use Rattle.jani_edges.specs.Code.{shared_writes, items_under}
use Rattle.jani_edges.proofs.Listed.{left_more, moved_more, moved_all}
use Rattle.jani_edges.proofs.shares.Shares.add_structure.Goals as goal

pub loop-i-preserved : goal.loop-i-preserved
loop-i-preserved c =
    let xs : List PrismItem = c.as_slice-items.result.now in
    record {
      left = λ x.
          let p : Item → _ = λ i. for_action x i.on in
          left_more (list_any p (map item_of (take c.loop-i.i-index xs))) (p (item_of c.i-item.result)) _ (filter p (map item_of xs)) _ _
          (any_next p item_of xs c.loop-i.i-index c.i-item.result c.loop-i-test.true c.i-item.is) (c.loop-i.invariant.left x) (c.in_ok-add_share.ensures.left x);
      shares = λ n x.
          let p : Item → _ = λ i. for_action x i.on in
          moved_more (sum_to n (instead_if c.args.structure.now.name c.args.entry.now.name)) refl (list_any p (map item_of (take c.loop-i.i-index xs))) (p (item_of c.i-item.result)) _
          (filter p (map item_of xs)) (items_under c.loop-i.left x) (shared_writes n c.args.self.now x) _ _
          (any_next p item_of xs c.loop-i.i-index c.i-item.result c.loop-i-test.true c.i-item.is) (c.loop-i.invariant.left x) (c.loop-i.invariant.shares n x) (c.in_ok-add_share.ensures.shares n x);
    }

pub returns : goal.returns
returns c = λ n x.
    let xs : List PrismItem = c.as_slice-items.result.now in
    let p : Item → _ = λ i. for_action x i.on in
    let f = sum_to n (instead_if c.args.structure.now.name c.args.entry.now.name) in
    c.loop-i.invariant.shares n x
    ∙ ap (λ l. shared_writes n c.args.self.now x ++ l)
    (ap (λ (ys : List PrismItem). if list_any p (map item_of ys) then f (filter p (map item_of xs)) else []) (take_all c.loop-i.i-index xs c.loop-i-test.false)
    ∙ moved_all f refl p (map item_of xs)
    ∙ ap (λ (ys : List PrismItem). f (filter p (map item_of ys))) c.as_slice-items.ensures)
