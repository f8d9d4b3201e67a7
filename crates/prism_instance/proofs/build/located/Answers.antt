use Rattle.std.proofs.Common.{◌≡◌, ℕ, List, map, length, subst, refl, ap, ◌∙◌, arith}
use Rattle.std.proofs.lemmas.List.{length-map}
use Rattle.std.specs.Borrow.{Bor}
use Rattle.process_core.specs.Ready.{Ready}
use Rattle.expr_store.specs.Alike.{IsMade, made_both}
use Rattle.expr_store.specs.Views.{nodes}
use Rattle.instance_start.specs.Numbered.{Numbered, by_number, with_value}
use Rattle.network.specs.Combined.{erased}
use Rattle.network.specs.Views.{Member, acting_at, edge_at}
use Rattle.prism_tree.specs.Operators.{prism_meaning}
use Rattle.prism_instance.proofs.Preparing.{made_agree}
use Rattle.prism_instance.specs.Shapes.{command_under}
use Rattle.prism_instance.specs.Views.{commands_of}
use Rattle.prism_instance.specs.Views.{columns_in, places_in}
use Rattle.prism_instance.specs.Sites.{acted_of, texts_of}
use Rattle.prism_instance.proofs.build.located.Goals as goal

pub returns : goal.returns
returns c =
    let places = places_in c.args.names.now in
    let cs = columns_in c.args.names.now in
    let k = c.args.one.now in
    let now = nodes c.edges.new.store in
    let end = nodes c.acting.new.store in
    let es = c.in_ok-silent.silent.items in
    let ps = c.in_ok-acting.acting.items in
    let n = length (texts_of k.actions.items) in
    let whole : List Ready → List (Numbered Ready) → Member = λ l p. record { silent = l; parts = by_number n p } in
    made_agree places (nodes c.args.store.now) end
    (λ at. whole (map (λ e. edge_at cs at e) es) (map (λ e. acting_at cs at e) ps)) _
    (λ seen. whole (map (λ c. erased (command_under cs seen c)) (commands_of k.silent.items)) (map (λ x. with_value (λ k. erased (command_under cs seen k)) x) (map acted_of k.acting.items))) _
    (λ at. ap {B = Member} (λ m. record { silent = map (λ e. edge_at cs at e) es; parts = by_number m (map (λ e. acting_at cs at e) ps) }) (length-map k.actions.items (λ (x : Bor (List ℕ)). x.now) ∙ (let e : length k.actions.items ≡ c.len.result = omega (arith, c.len.ensures) in e)))
    (λ seen. refl)
    (made_both whole (λ at. map (λ e. edge_at cs at e) es) (λ seen. map (λ c. erased (command_under cs seen c)) (commands_of k.silent.items))
    (λ at. map (λ e. acting_at cs at e) ps) (λ seen. map (λ x. with_value (λ k. erased (command_under cs seen k)) x) (map acted_of k.acting.items))
    (subst (λ l. IsMade prism_meaning places (nodes c.args.store.now) now (λ at. map (λ e. edge_at cs at e) es) (λ seen. map (λ c. erased (command_under cs seen c)) (commands_of l))) c.as_slice.ensures.value c.in_ok-silent.ensures)
    (subst (λ l. IsMade prism_meaning places now end (λ at. map (λ e. acting_at cs at e) ps) (λ seen. map (λ x. with_value (λ k. erased (command_under cs seen k)) x) (map acted_of l))) c.as_slice-2.ensures.value c.in_ok-acting.ensures))
