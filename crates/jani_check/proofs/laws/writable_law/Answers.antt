use Rattle.jani_check.proofs.Profiled.{checked_is_writable}
use Rattle.jani_check.proofs.laws.writable_law.Goals as goal

pub returns : goal.returns
returns c = checked_is_writable
