use Rattle.frac_core.proofs.Readings.{numeral_read}
use Rattle.frac_core.proofs.Worth.{worth_normal, worth_within}
use Rattle.frac_core.proofs.Back.{text_back}
use Rattle.frac_core.proofs.laws.numeral_laws.Goals as goal

pub returns-clause-read : goal.returns-clause-read
returns-clause-read c = numeral_read

pub returns-clause-normal : goal.returns-clause-normal
returns-clause-normal c = worth_normal

pub returns-clause-within : goal.returns-clause-within
returns-clause-within c = worth_within

pub returns-clause-back : goal.returns-clause-back
returns-clause-back c = text_back
