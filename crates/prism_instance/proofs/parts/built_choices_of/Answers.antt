use Rattle.std.proofs.Common.{◌∙◌, List, ℕ, [], ap, ap₂, map, refl, subst, sym}
use Rattle.std.proofs.Math.Path.{fun_ext}
use Rattle.gathering.specs.Lists.{list_under}
use Rattle.process_core.specs.Product.{map-map}
use Rattle.process_core.specs.Ready.{Sum}
use Rattle.expr_store.specs.Alike.{IsMade, alike_later}
use Rattle.expr_store.specs.NodeLaws.{grown_then}
use Rattle.expr_store.specs.Views.{nodes}
use Rattle.instance_start.specs.Numbered.{with_value}
use Rattle.prism_tree.specs.Operators.{prism_meaning}
use Rattle.prism_tree.specs.Syntax.{file_of}
use Rattle.network.specs.Views.{component_at, earned_at}
use Rattle.prism_instance.specs.Shapes.{acting, bodies, item_under}
use Rattle.prism_instance.specs.Sites.{Sorted, actions_in, acts_of, earned_of, linked_at, linked_under, linked_with, links_among, member_under, sorted, sorted_of}
use Rattle.prism_instance.specs.Views.{columns_in, places_in}
use Rattle.prism_instance.proofs.Preparing.{made_agree}
use Rattle.prism_instance.proofs.parts.built_choices_of.Goals as goal

pub returns : goal.returns
returns c =
    let file = file_of c.args.file.now in
    let places = places_in c.args.names.now in
    let cs = columns_in c.args.names.now in
    let start = nodes c.args.store.now in
    let first = nodes c.components.new.store in
    let second = nodes c.all_vectors.new.store in
    let end = nodes c.earned.new.store in
    let ms = bodies file.modules in
    let components = c.in_ok-components.components.items in
    let vs = c.in_ok-vectors.vectors.items in
    let es = c.in_ok-silent.silent.items in
    let actions = sym (map-map (λ (k : Sorted). k.actions) sorted_of c.args.modules.now) ∙ ap (map (λ (k : Sorted). k.actions)) c.requires.modules ∙ map-map (λ (k : Sorted). k.actions) sorted ms in
    let items = λ (x : List ℕ). map earned_of (list_under c.args.earnings.now.named x) in
    let among = λ (x : List ℕ). links_among x (map actions_in c.args.modules.now) in
    let vectors = λ (n : ℕ) (shared : List Sum).
    made_agree places first second (λ at. map (λ v. linked_at at n shared v) vs) (λ at. map (λ v. linked_at at n shared v) vs)
    (λ seen. map (λ a. linked_with seen n items among a) (acting ms))
    (λ seen. map (λ a. linked_under seen n file.rewards (λ x. links_among x (map acts_of ms)) a) (acting ms))
    (λ at. refl)
    (λ seen. ap₂ (λ i l. map (λ a. linked_with seen n i (λ x. links_among x l) a) (acting ms)) (fun_ext (λ x. c.requires.earned.named x)) actions)
    (c.in_ok-vectors.ensures n shared) in
    let silent =
    subst (λ l. IsMade prism_meaning places second end (λ at. map (λ e. earned_at at e) es) (λ seen. map (λ e. with_value (item_under seen) e) l))
    (ap (map earned_of) c.as_slice.ensures.value ∙ c.requires.earned.silent) c.in_ok-silent.ensures in
    record {
      components = λ s.
          let made = subst (λ l. IsMade prism_meaning places start first (λ at. map (λ k. component_at cs at s k) components) (λ seen. map (λ k. member_under cs seen k) l)) c.requires.modules (c.in_ok-components.ensures s) in
          alike_later (λ at. map (λ k. component_at cs at s k) components) (λ seen. map (λ k. member_under cs seen k) (map sorted ms))
          (grown_then (vectors 0 []).grown silent.grown) made.made;
      vectors = λ n shared.
          alike_later (λ at. map (λ v. linked_at at n shared v) vs) (λ seen. map (λ a. linked_under seen n file.rewards (λ x. links_among x (map acts_of ms)) a) (acting ms))
          silent.grown (vectors n shared).made;
      silent = silent.made;
    }
