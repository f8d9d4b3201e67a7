use Rattle.std.proofs.Common.{◌≡◌, sym, ◌∙◌, rules, tests}
use Rattle.std.specs.List.{list_any}
use Rattle.std.proofs.lemmas.Iterator.{YieldsList-from_slice}
use Rattle.std.proofs.lemmas.Iterator.Search.{any_from_yields_List}
use Rattle.basics.specs.Members.{any-map}
use Rattle.prism_tree.specs.Syntax as prism
use Rattle.prism_tree.specs.declared.syntax.PrismItem.{PrismItem}
use Rattle.jani_edges.specs.Code.{wanted_by}
use Rattle.jani_edges.proofs.rewards.has_item.Goals as goal

pub returns : goal.returns
returns c =
    let e : c.any.result ≡ list_any (λ (r : PrismItem). (λ (i : prism.Item). wanted_by c.args.wanted.now i.on) (prism.item_of r)) c.args.r.now.items =
    any_from_yields_List (λ (r : PrismItem). (λ (i : prism.Item). wanted_by c.args.wanted.now i.on) (prism.item_of r)) _ _ c.any.result c.any.ensures.ran (YieldsList-from_slice c.args.r.now.items cc) (λ x b q k. search (rules, tests)) in
    e ∙ sym (any-map (λ (i : prism.Item). wanted_by c.args.wanted.now i.on) prism.item_of c.args.r.now.items)
