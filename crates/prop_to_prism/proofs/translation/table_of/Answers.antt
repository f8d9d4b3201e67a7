use Rattle.std.proofs.Common.{◌∙◌, ap, ap₂, sym, map, []}
use Rattle.jani_tree.specs.Syntax.{File, file_of}
use Rattle.name_table.specs.declared.class.Target.TheVariants.{Prism}
use Rattle.name_table.specs.Entries.{Table, entries_after}
use Rattle.name_table.specs.PrismAsks.{asks}
use Rattle.name_table.proofs.EntryLemmas.{after_append}
use Rattle.prop_trees.specs.Syntax.{jani_property_of}
use Rattle.prop_to_prism.specs.ToPrism.{property_asks}
use Rattle.prop_to_prism.proofs.translation.table_of.Goals as goal

pub returns : goal.returns
returns c =
    let file : File = file_of c.args.model.now in
    let more = property_asks (map jani_property_of c.args.props.now) in
    ap (λ (t : Table). t.entries) c.in_ok-ask_all.ensures
    ∙ ap₂ (λ t es. entries_after t es more) c.in_ok-table.ensures.0 c.in_ok-table.ensures.1
    ∙ sym (after_append Prism [] (asks file) more)
