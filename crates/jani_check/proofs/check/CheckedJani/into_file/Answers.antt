use Rattle.std.proofs.Common.{subst}
use Rattle.jani_tree.specs.Syntax.{file_of}
use Rattle.jani_check.specs.Faults.{IsChecked}
use Rattle.jani_check.proofs.check.CheckedJani.into_file.Goals as goal

pub returns-clause-checked : goal.returns-clause-checked
returns-clause-checked c = subst (λ f. IsChecked (file_of f)) c.self.view_is c.self.invariant.checked
