use Rattle.std.proofs.Common.{◌≡◌, ◌∙◌, ap, subst, map}
use Rattle.std.specs.Prelude.{IfOk}
use Rattle.jani_tree.specs.Syntax.{file_of}
use Rattle.jani_instance.specs.Parts.{automaton_at, owned_at}
use Rattle.jani_instance.specs.Shapes.{transient_at}
use Rattle.jani_instance.proofs.StartLaws.{alone_names, same_transients}
use Rattle.jani_instance.proofs.start.known_transients.Goals as goal

pub returns : goal.returns
returns c = λ v tabled.
    let listed = c.requires in
    subst (λ l. IfOk c.transients.result (λ ts. map transient_at ts.items ≡ l))
    (same_transients _ _ _ _ _ _ _ _
    (ap (map automaton_at) c.as_slice.ensures.value ∙ listed.parts_are)
    (c.constants_alone-run.ensures ∙ alone_names (file_of c.args.file.now) v c.args.listed.now.constants c.args.table.now listed.constants_at tabled)
    (ap (map owned_at) c.as_slice-2.ensures.value ∙ listed.kinds_are.labels_are)
    (ap (map owned_at) c.as_slice-3.ensures.value ∙ listed.kinds_are.structures_are))
    c.transients.ensures
