use Rattle.choice_laws.proofs.Columns.{read_at, written_at}
use Rattle.choice_laws.proofs.laws.column_laws.Goals as goal

pub returns : goal.returns
returns c columns n = record { reads = read_at columns n; writes = written_at columns n }
