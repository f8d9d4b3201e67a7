use Rattle.std.proofs.Common.{ap, refl, ◌∙◌}
use Rattle.op_trees.specs.Tree.{tree}
use Rattle.process_core.specs.Instance.{write_to}
use Rattle.expr_store.specs.Alike.{made_map}
use Rattle.expr_store.specs.Views.{nodes}
use Rattle.prism_check.specs.Moment.{place_of}
use Rattle.prism_names.specs.Names.{see}
use Rattle.prism_instance.proofs.Preparing.{made_agree}
use Rattle.prism_instance.specs.Views.{columns_in, places_in}
use Rattle.prism_instance.proofs.build.assignment.Goals as goal

pub returns : goal.returns
returns c =
    let places = places_in c.args.names.now in
    let cs = columns_in c.args.names.now in
    let w = c.args.write.now in
    let column = c.column_of-place.ensures ∙ ap (place_of cs) c.as_str.ensures in
    made_agree places (nodes c.args.store.now) (nodes c.put.new.store)
    (λ at. write_to cs c.column_of-place.result (at c.in_ok-value.value)) _ (λ seen. write_to cs c.column_of-place.result (see (tree w.value) seen)) _
    (λ at. refl) (λ seen. ap (λ i. write_to cs i (see (tree w.value) seen)) column)
    (made_map (write_to cs c.column_of-place.result) (λ at. at c.in_ok-value.value) (λ seen. see (tree w.value) seen) c.in_ok-value.ensures)
