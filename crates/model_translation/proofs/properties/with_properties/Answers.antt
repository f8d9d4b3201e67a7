use Rattle.std.proofs.Common.{sym, subst}
use Rattle.jani_table.specs.Node.{node}
use Rattle.jani_check.specs.Faults.{IsChecked}
use Rattle.jani_tree.specs.declared.syntax.JaniFile.{JaniFile}
use Rattle.jani_tree.specs.Syntax.{file_of}
use Rattle.model_translation.proofs.Paired.{checked_with}
use Rattle.model_translation.proofs.properties.with_properties.Goals as goal

pub without_fault-requires : goal.without_fault-requires
without_fault-requires c =
    let checked : IsChecked (file_of c.into_file-file.result) = subst (λ (f : JaniFile). IsChecked (file_of f)) (sym c.into_file-file.ensures.same) c.into_file-file.ensures.checked in
    checked_with (file_of c.into_file-file.result) (node c.args.value) checked c.requires.normal c.requires.once
