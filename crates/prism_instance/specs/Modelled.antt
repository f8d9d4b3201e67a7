-- What a model is, and that it keeps the laws of processes. (This project's own rule.)
use Rattle.process_core.specs.Steps.{IsProcess}
use Rattle.instance_start.specs.Given.{given_by}
use Rattle.network.specs.Outline.{Outline, process_by}
use Rattle.prism_instance.specs.Lawful.{described_is}
use Rattle.prism_instance.specs.Outline.{outline}
use Rattle.prism_instance.specs.declared.model.PrismModel.{PrismModel}

abbrev pub outline_of : PrismModel → Outline
outline_of m = outline m.flat.now (given_by m.given.now)

pub model_is : (m : PrismModel) → IsProcess (process_by (outline_of m))
model_is m = described_is m.flat.now (given_by m.given.now) m.sound.begin m.sound.faultless
