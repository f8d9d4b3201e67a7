use Rattle.command_words.specs.Given.{HasGiven}
use Rattle.command_words.proofs.Forms.{wrong_head, given_begins}
use Rattle.command_words.proofs.fronts.specialise_in.Goals as goal

pub returns-in-Err : goal.returns-in-Err
returns-in-Err c = wrong_head (λ file. HasGiven) given_begins _ _ c.in-Err.ensures
