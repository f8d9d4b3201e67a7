use Rattle.constant_folding.proofs.Fitting.{all_are_small}
use Rattle.constant_folding.proofs.constants.known_under.Goals as goal

pub returns-in-Ok-clause-small : goal.returns-in-Ok-clause-small
returns-in-Ok-clause-small g c = all_are_small c.args.given.now c.given_are_small.ensures
