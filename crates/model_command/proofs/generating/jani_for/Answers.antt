use Rattle.model_command.proofs.Generated.{of_bytes}
use Rattle.model_command.proofs.generating.jani_for.Goals as goal

pub translate-requires : goal.translate-requires
translate-requires c = (c.as_slice.result.now, c.prism_in.ensures)

pub returns : goal.returns
returns c = of_bytes c.args.modules c.in_ok-model.model c.as_slice.result.now c.translate.result c.in_ok-model.ensures c.as_slice.ensures (c.translate.ensures c.as_slice.result.now c.prism_in.ensures)
