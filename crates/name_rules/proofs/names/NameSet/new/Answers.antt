use Rattle.std.specs.Prelude.{is_some}
use Rattle.std.proofs.Common.{ap}
use Rattle.name_rules.proofs.names.NameSet.new.Goals as goal

pub returns : goal.returns
returns c = ap (λ values. λ x. is_some (values x)) c.new.ensures
