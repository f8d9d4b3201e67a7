use Rattle.process_core.specs.Idle.{choice_idle, choice_joined, Earns_alone}
use Rattle.process_core.proofs.laws.idle_laws.Goals as goal

pub returns : goal.returns
returns c = record { nothing = choice_idle; rewards = choice_joined; earns = Earns_alone }
