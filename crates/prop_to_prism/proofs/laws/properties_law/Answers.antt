use Rattle.prop_to_prism.proofs.Agreeing.{translated_agree}
use Rattle.prop_to_prism.proofs.Structures.{structures_named, numbered_first}
use Rattle.prop_to_prism.proofs.TextBack.{text_read_back}
use Rattle.prop_to_prism.proofs.laws.properties_law.Goals as goal

pub returns-clause-agree : goal.returns-clause-agree
returns-clause-agree c = translated_agree

pub returns-clause-structures : goal.returns-clause-structures
returns-clause-structures c = structures_named

pub returns-clause-numbered : goal.returns-clause-numbered
returns-clause-numbered c = numbered_first

pub returns-clause-read : goal.returns-clause-read
returns-clause-read c = text_read_back c.text_law.ensures c.one_file.ensures
