use Rattle.std.proofs.Common.{◌∙◌, ap, length}
use Rattle.jani_tree.specs.Syntax.{file_of}
use Rattle.instance_start.specs.Given.{given_by}
use Rattle.jani_instance.proofs.Texts.{column_number}
use Rattle.jani_instance.proofs.instance.JaniInstanceSteps.columns.Goals as goal

pub returns : goal.returns
returns c =
    let i = c.args.self.now in
    ap length c.as_slice.ensures.value ∙ column_number i.columns.items (file_of i.checked.now) (given_by i.given.now) i.sound.columns_are
