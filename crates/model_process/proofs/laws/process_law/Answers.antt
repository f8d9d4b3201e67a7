use Rattle.model_process.proofs.Lawful.{described_is_process}
use Rattle.model_process.proofs.laws.process_law.Goals as goal

pub returns : goal.returns
returns c = described_is_process c.printable_law.ensures c.described_law.ensures c.jani_names_law.ensures
