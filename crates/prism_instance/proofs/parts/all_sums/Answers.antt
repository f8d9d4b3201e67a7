use Rattle.std.proofs.Common.{◌∙◌, Vec, Global, ap, map, subst}
use Rattle.std.proofs.lemmas.Result.{IfOk-weaker}
use Rattle.std.specs.Borrow.{Bor}
use Rattle.expr_store.specs.Alike.{IsMade}
use Rattle.expr_store.specs.Views.{nodes}
use Rattle.prism_tree.specs.Operators.{prism_meaning}
use Rattle.prism_tree.specs.Syntax.{rewards_of}
use Rattle.prism_tree.specs.declared.syntax.PrismItem.{PrismItem}
use Rattle.network.specs.Views.{sum_at}
use Rattle.network.specs.declared.data.Item.{Item}
use Rattle.prism_instance.specs.Shapes.{earned_in_states, sum_under}
use Rattle.prism_instance.specs.Views.{items_of, places_in}
use Rattle.prism_instance.proofs.parts.all_sums.Goals as goal

pub returns : goal.returns
returns c =
    let places = places_in c.args.names.now in
    let old = nodes c.args.store.now in
    let new = nodes c.sums.new.store in
    let lists = λ (is : Vec (Bor PrismItem) Global). items_of is.items in
    let items = ap (map lists) c.as_slice-2.ensures.value ∙ c.in_ok-items.ensures ∙ ap (λ l. earned_in_states (map rewards_of l)) c.as_slice.ensures in
    IfOk-weaker c.sums.result
    (λ (rs : Vec (Vec Item Global) Global). IsMade prism_meaning places old new (λ at. map (λ is. sum_at at is.items) rs.items) (λ seen. map (λ is. sum_under seen is) (map lists c.as_slice-2.result.now)))
    (λ (rs : Vec (Vec Item Global) Global). IsMade prism_meaning places old new (λ at. map (λ is. sum_at at is.items) rs.items)
    (λ seen. map (λ is. sum_under seen is) (earned_in_states (map rewards_of c.args.file.now.rewards))))
    (λ rs h. subst (λ k. IsMade prism_meaning places old new (λ at. map (λ is. sum_at at is.items) rs.items) (λ seen. map (λ is. sum_under seen is) k)) items h)
    c.sums.ensures
