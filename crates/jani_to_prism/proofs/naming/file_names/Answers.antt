use Rattle.std.proofs.Common.{◌∙◌, ap, sym, length, drop, List}
use Rattle.jani_tree.specs.Syntax.{File, file_of}
use Rattle.name_table.specs.declared.entry.Entry.{Entry}
use Rattle.name_table.specs.PrismAsks.{NewNames, names_by, actions_at}
use Rattle.prism_targets.specs.Targets.{targets}
use Rattle.jani_to_prism.proofs.LongActions.{actions_long}
use Rattle.jani_to_prism.proofs.naming.file_names.Goals as goal

pub returns-clause-names : goal.returns-clause-names
returns-clause-names c = c.in_ok-names.ensures.names ∙ ap (names_by (file_of c.args.file.now)) c.requires.entries

pub returns-clause-actions : goal.returns-clause-actions
returns-clause-actions c =
    let f : File = file_of c.args.file.now in
    record {
      actions_long =
          ap (λ (k : NewNames). length k.actions) c.in_ok-names.ensures.names
          ∙ ap (λ (es : List Entry). length (drop (actions_at f) es)) c.requires.entries
          ∙ actions_long f
          ∙ ap (λ (g : File). length (targets g)) (sym c.in_ok-names.ensures.file);
    }
