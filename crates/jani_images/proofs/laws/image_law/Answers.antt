use Rattle.jani_images.proofs.ImageSeen.{image_seen}
use Rattle.jani_images.proofs.laws.image_law.Goals as goal

pub returns : goal.returns
returns c = λ new e names env same operands. image_seen new names env e same operands
