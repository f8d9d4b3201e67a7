use Rattle.std.proofs.Common.{◌∙◌, List, Some, ap, map, refl}
use Rattle.gathering.specs.Lists.{list_under}
use Rattle.process_core.specs.Bounds.{Item, summed}
use Rattle.expr_store.specs.Alike.{made_map}
use Rattle.expr_store.specs.Views.{nodes}
use Rattle.instance_start.specs.Numbered.{Numbered, by_number, with_value}
use Rattle.network.specs.Views.{earned_at}
use Rattle.prism_instance.specs.Shapes.{item_under}
use Rattle.prism_instance.specs.Sites.{Linked, earned_of}
use Rattle.prism_instance.specs.Views.{places_in}
use Rattle.prism_instance.proofs.Preparing.{made_agree}
use Rattle.prism_instance.proofs.vectors.vector.Goals as goal

pub returns : goal.returns
returns c = λ n shared.
    let a = c.args.action.now in
    let ls = c.in_ok-links.links.items in
    let es = c.in_ok-earned.earned.items in
    let whole : List (Numbered Item) → Linked = λ r. record { label = Some a; rewards = map summed (by_number n r); links = ls } in
    let items = c.get-2.ensures ∙ ap (list_under c.args.items.now) c.as_str-2.ensures in
    let links = c.in_ok-links.ensures ∙ c.get.ensures ∙ ap (list_under c.args.links.now) c.as_str.ensures in
    made_agree (places_in c.args.names.now) (nodes c.args.store.now) (nodes c.earned.new.store)
    (λ at. whole (map (λ e. earned_at at e) es)) _
    (λ seen. whole (map (λ e. with_value (item_under seen) e) (map earned_of c.get-2.result.now))) _
    (λ at. refl)
    (λ seen. ap (λ l. whole (map (λ e. with_value (item_under seen) e) (map earned_of l))) items
    ∙ ap {B = Linked} (λ l. record { label = Some a; rewards = map summed (by_number n (map (λ e. with_value (item_under seen) e) (map earned_of (list_under c.args.items.now a)))); links = l }) links)
    (made_map whole (λ at. map (λ e. earned_at at e) es) (λ seen. map (λ e. with_value (item_under seen) e) (map earned_of c.get-2.result.now)) c.in_ok-earned.ensures)
