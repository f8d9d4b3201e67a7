use Rattle.std.specs.Prelude.{map}
use Rattle.std.proofs.Common.{subst}
use Rattle.prism_check.specs.Checked.{Checked}
use Rattle.prop_grammar.specs.Syntax.{written_of}
use Rattle.prop_check.specs.Read.{ReadsWritten}
use Rattle.prop_check.proofs.files.read_written.Goals as goal

pub returns : goal.returns
returns c = subst (λ (k : Checked). ReadsWritten k.file (map written_of c.args.all.now) c.read_in.result) c.in_ok-scope.ensures c.read_in.ensures
