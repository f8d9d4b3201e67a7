use Rattle.std.proofs.Common.{Some, ◌∷◌, [], refl, sym, ap, ◌∙◌}
use Rattle.std.specs.Prelude.{◌++◌, slice_get}
use Rattle.expr_store.specs.Views.{nodes}
use Rattle.network.specs.Views.{located_at}
use Rattle.prism_instance.proofs.Preparing.{made_agree}
use Rattle.prism_instance.specs.Views.{columns_in, places_in}
use Rattle.prism_instance.specs.Sites.{member_under, sorted_of}
use Rattle.prism_instance.proofs.build.component.Goals as goal

pub returns : goal.returns
returns c = λ s.
    let cs = columns_in c.args.names.now in
    let l = c.in_ok-located.located in
    let alone = c.in_ok-push.ensures.items ∙ ap (λ k. k ++ l ∷ []) c.in_ok-locations.ensures.items in
    made_agree (places_in c.args.names.now) (nodes c.args.store.now) (nodes c.located.new.store)
    (λ at. located_at cs at (Some l)) _ (λ seen. member_under cs seen (sorted_of c.args.one.now)) _
    (λ at. ap (λ k. located_at cs at (slice_get k 0)) (sym alone)) (λ seen. refl) c.in_ok-located.ensures
