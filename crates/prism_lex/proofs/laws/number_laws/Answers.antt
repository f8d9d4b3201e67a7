use Rattle.prism_lex.proofs.Worth.{worth_unsigned, worth_normal, worth_within}
use Rattle.prism_lex.proofs.NumeralLemmas.{numeral_number, number_numeral, limit_38_digits}
use Rattle.prism_lex.proofs.laws.number_laws.Goals as goal

pub returns : goal.returns
returns c = record { numeral = numeral_number; number = number_numeral; limit = limit_38_digits; sign = worth_unsigned; normal = worth_normal; within = worth_within }
