use Rattle.std.proofs.Common.{◌∙◌, ap, sym, subst, length}
use Rattle.std.specs.Prelude.{Some}
use Rattle.std.proofs.lemmas.List.{length-map}
use Rattle.jani_tree.specs.Syntax.{file_of}
use Rattle.jani_instance.specs.Constants.{Tabled}
use Rattle.jani_instance.specs.Knowing.{IsPreparedOf}
use Rattle.jani_instance.specs.Parts.{owned_at}
use Rattle.jani_instance.proofs.Resolved.{built_is}
use Rattle.jani_instance.proofs.start.what_is_built.Goals as goal

pub returns : goal.returns
returns c = λ v tabled.
    let file = file_of c.args.file.now in
    let places = c.in_ok-places.places in
    let es = c.in_ok-linked.linked.elements.items in
    let ts = c.in_ok-transients.transients.items in
    let made = c.in_ok-prepared.prepared in
    built_is file v c.requires.checked places c.in_ok-places.ensures es ts c.in_ok-linked.ensures.elements_are
    (c.in_ok-transients.ensures v (subst (λ t. Tabled file v (Some t)) (sym c.as_slice.ensures.value) tabled))
    _
    (subst (λ l. IsPreparedOf places l ts made) c.as_slice-2.ensures.value
    (subst (λ l. IsPreparedOf places c.as_slice-2.result.now l made) c.as_slice-3.ensures.value c.in_ok-prepared.ensures))
    c.in_ok-linked.ensures.vectors_are
    (ap length c.as_slice-4.ensures.value ∙ sym (length-map c.args.listed.now.kinds.labels.items owned_at) ∙ ap length c.requires.listed.kinds_are.labels_are)
    c.in_ok-linked.ensures.initial_are c.requires.listed.condition_is
