use Rattle.std.specs.Prelude.{None}
use Rattle.std.proofs.Common.{◌∙◌, ap}
use Rattle.jani_table.specs.Node.{node}
use Rattle.name_rules.specs.Least.{soonest}
use Rattle.jani_props.specs.declared.table.PropForm.TheVariants as F
use Rattle.jani_props.specs.Shape.{faults}
use Rattle.jani_props.proofs.read.shape_fault.Goals as goal

pub returns : goal.returns
returns c = c.judge.ensures ∙ ap (λ g. soonest None (faults g F.Properties (node c.args.file.now.properties))) c.in_ok-given.ensures
