use Rattle.std.proofs.Common.{sym}
use Rattle.command_words.specs.Given.{HasGiven}
use Rattle.command_words.specs.Fronts.{IsPairsWord, GivenForm}
use Rattle.command_words.proofs.Wrong.{read_none, read_first, one_end, one_first}
use Rattle.command_words.proofs.Forms.{given_form_begins}
use Rattle.command_words.proofs.fronts.given_in.Goals as goal

pub returns-in_default : goal.returns-in_default
returns-in_default c = read_none GivenForm 1 c.args.words.now c.in_default.len_below (one_end IsPairsWord HasGiven given_form_begins)

pub returns-in-None : goal.returns-in-None
returns-in-None c =
    read_first GivenForm 1 c.args.words.now c.first-item.result _ c.in-len1-up.len_at_least c.first-item.is (sym c.as_str.ensures.value)
    (one_first IsPairsWord HasGiven given_form_begins _ _ (λ s. (rw c.in-None.is at c.in_ok-pairs.ensures) s.0 s.1))
