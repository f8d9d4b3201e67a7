use Rattle.prism_translation_laws.proofs.NoFault.{written_out, in_order, rewards_named, printable}
use Rattle.prism_translation_laws.proofs.names.form_law.Goals as goal

pub returns : goal.returns
returns c = record { written_out = written_out; ordered = in_order; named = rewards_named; printable = printable }
