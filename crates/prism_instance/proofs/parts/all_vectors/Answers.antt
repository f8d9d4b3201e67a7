use Rattle.std.proofs.Common.{◌∙◌, List, ℕ, Some, Vec, Global, ap, map, refl}
use Rattle.std.proofs.lemmas.Result.{IfOk-weaker}
use Rattle.basics.specs.Lists.{map_agree}
use Rattle.gathering.specs.Lists.{list_under}
use Rattle.process_core.specs.Bounds.{summed}
use Rattle.process_core.specs.Ready.{Sum}
use Rattle.expr_store.specs.Alike.{IsMade}
use Rattle.expr_store.specs.Views.{nodes}
use Rattle.instance_start.specs.Numbered.{by_number, with_value}
use Rattle.prism_tree.specs.Operators.{prism_meaning}
use Rattle.prism_tree.specs.Syntax.{module_of}
use Rattle.network.specs.declared.data.Vector.{Vector}
use Rattle.prism_instance.specs.Shapes.{acting, bodies, item_under}
use Rattle.prism_instance.specs.Sites.{Linked, actions_in, earned_of, linked_at, linked_with, links_among, texts_of}
use Rattle.prism_instance.specs.Views.{places_in}
use Rattle.prism_instance.proofs.Preparing.{made_agree}
use Rattle.prism_instance.proofs.parts.all_vectors.Goals as goal

pub returns : goal.returns
returns c =
    let places = places_in c.args.names.now in
    let old = nodes c.args.store.now in
    let new = nodes c.vectors.new.store in
    let items = λ (x : List ℕ). map earned_of (list_under c.args.items.now x) in
    let links = λ (x : List ℕ). list_under c.in_ok-links.links x in
    let among = λ (x : List ℕ). links_among x (map actions_in c.args.modules.now) in
    let all = acting (bodies (map module_of c.args.file.now.modules)) in
    let texts = ap texts_of c.as_slice-2.ensures.value ∙ c.in_ok-actions.ensures ∙ ap (λ l. acting (bodies (map module_of l))) c.as_slice.ensures in
    IfOk-weaker c.vectors.result
    (λ (vs : Vec Vector Global). (n : ℕ) (shared : List Sum) → IsMade prism_meaning places old new (λ at. map (λ v. linked_at at n shared v) vs.items)
    (λ seen. map (λ a. linked_with seen n items links a) (texts_of c.as_slice-2.result.now)))
    (λ (vs : Vec Vector Global). (n : ℕ) (shared : List Sum) → IsMade prism_meaning places old new (λ at. map (λ v. linked_at at n shared v) vs.items)
    (λ seen. map (λ a. linked_with seen n items among a) all))
    (λ vs h n shared.
    made_agree places old new (λ at. map (λ v. linked_at at n shared v) vs.items) _ (λ seen. map (λ a. linked_with seen n items links a) (texts_of c.as_slice-2.result.now)) _
    (λ at. refl)
    (λ seen. ap (map (λ a. linked_with seen n items links a)) texts
    ∙ map_agree (λ a. linked_with seen n items links a) (λ a. linked_with seen n items among a)
    (λ a. ap {B = Linked} (λ l. record { label = Some a; rewards = map summed (by_number n (map (with_value (item_under seen)) (items a))); links = l }) (c.in_ok-links.ensures a)) all)
    (h n shared))
    c.vectors.ensures
