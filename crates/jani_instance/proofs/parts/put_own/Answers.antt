use Rattle.std.proofs.Common.{ap}
use Rattle.jani_instance.proofs.parts.put_own.Goals as goal

pub returns : goal.returns
returns c = λ x. ap (λ f. f x) c.in_ok-put_first.ensures
