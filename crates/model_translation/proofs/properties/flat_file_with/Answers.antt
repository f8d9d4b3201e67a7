use Rattle.std.proofs.Common.{◌≡◌}
use Rattle.std.proofs.lemmas.Result.{IfOk-weaker}
use Rattle.jani_table.specs.Node.{node}
use Rattle.jani_tree.specs.Syntax.{file_of}
use Rattle.prop_to_jani.specs.ReadBack.{with_properties}
use Rattle.model_translation.proofs.properties.flat_file_with.Goals as goal

pub returns : goal.returns
returns c =
    IfOk-weaker c.with_properties.result (λ j. file_of j ≡ with_properties (file_of c.in_ok-model.model) (node c.in_ok-value.value)) _
    (λ j e. (file_of c.in_ok-model.model, node c.in_ok-value.value, e, c.in_ok-model.ensures, c.in_ok-value.ensures)) c.with_properties.ensures
