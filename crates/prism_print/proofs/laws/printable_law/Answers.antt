use Rattle.prism_print.proofs.KeptFiles.{spelled_printable}
use Rattle.prism_print.proofs.laws.printable_law.Goals as goal

pub returns : goal.returns
returns c = spelled_printable
