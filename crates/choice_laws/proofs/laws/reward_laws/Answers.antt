use Rattle.choice_laws.proofs.Rewards.{choices_enabled, choice_bare}
use Rattle.choice_laws.proofs.laws.reward_laws.Goals as goal

pub returns : goal.returns
returns c = record { enabled = choices_enabled; bare = choice_bare }
