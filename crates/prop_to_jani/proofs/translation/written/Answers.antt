use Rattle.std.proofs.Common.{◌∙◌, ap, List, map}
use Rattle.prism_tree.specs.Syntax.{file_of}
use Rattle.prism_names.specs.Flat.{flat}
use Rattle.name_table.specs.declared.entry.Entry.{Entry}
use Rattle.prop_trees.specs.Syntax.{property_of}
use Rattle.prop_to_jani.proofs.Entries.{name_alike, rewards_alike, properties_alike}
use Rattle.prop_to_jani.proofs.translation.written.Goals as goal

pub with_names-requires-clause-names : goal.with_names-requires-clause-names
with_names-requires-clause-names c = λ x. c.in_ok-names.ensures x ∙ name_alike (file_of c.args.file.now) (flat c.args.model.now.file) c.requires.flat.same x

pub with_names-requires-clause-rewards : goal.with_names-requires-clause-rewards
with_names-requires-clause-rewards c =
    ap (λ (es : List Entry). map (λ e. e.name) es) c.parts_of-entries.ensures.rewards ∙ rewards_alike (file_of c.args.file.now) (flat c.args.model.now.file) c.requires.flat.same

pub with_names-requires-clause-properties : goal.with_names-requires-clause-properties
with_names-requires-clause-properties c =
    c.parts_of-entries.ensures.properties ∙ properties_alike (file_of c.args.file.now) (flat c.args.model.now.file) c.requires.flat.same (map property_of c.args.props.now)
