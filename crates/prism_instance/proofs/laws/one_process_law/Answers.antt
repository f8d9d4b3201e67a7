use Rattle.std.proofs.Common.{refl}
use Rattle.prism_instance.proofs.laws.one_process_law.Goals as goal

pub returns : goal.returns
returns c = λ file v. refl
