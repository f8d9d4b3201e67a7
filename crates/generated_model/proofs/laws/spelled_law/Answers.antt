use Rattle.std.specs.Prelude.{[]}
use Rattle.generated_model.proofs.Printable.{file_printable}
use Rattle.generated_model.proofs.laws.spelled_law.Goals as goal

pub returns : goal.returns
returns c n l = c.commented_law.ensures [] _ tt (file_printable n l)
