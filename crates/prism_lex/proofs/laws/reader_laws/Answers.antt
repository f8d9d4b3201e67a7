use Rattle.prism_lex.proofs.Readers.{next_goes_on, end_is_whole, fault_is_first}
use Rattle.prism_lex.proofs.laws.reader_laws.Goals as goal

pub returns : goal.returns
returns c = record { next = next_goes_on; end = end_is_whole; fault = fault_is_first }
