use Rattle.prop_to_jani.proofs.Agreeing.{translated_agree}
use Rattle.prop_to_jani.proofs.Promised.{translated_spelled}
use Rattle.prop_to_jani.proofs.ReadBack.{translated_read_back}
use Rattle.prop_to_jani.proofs.laws.properties_law.Goals as goal

pub returns-clause-agree : goal.returns-clause-agree
returns-clause-agree c = translated_agree c.names_law.ensures.len c.image_laws.ensures.typed c.image_laws.ensures.agreeing

pub returns-clause-spelled : goal.returns-clause-spelled
returns-clause-spelled c = translated_spelled c.image_laws.ensures.operands

pub returns-clause-read : goal.returns-clause-read
returns-clause-read c = translated_read_back c.image_laws.ensures.typed c.image_laws.ensures.agreeing c.image_laws.ensures.operands
