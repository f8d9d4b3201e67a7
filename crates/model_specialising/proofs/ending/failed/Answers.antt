use Rattle.std.proofs.Common.{sym, subst, map, length}
use Rattle.std.proofs.lemmas.List.{length-map}
use Rattle.constant_folding.specs.Unfit.{Fails}
use Rattle.command_words.specs.Given.{assignment_of}
use Rattle.model_process.specs.Constants.{good_front}
use Rattle.model_specialising.proofs.Ended.{misfits}
use Rattle.model_specialising.proofs.ending.failed.Goals as goal

pub returns-in-Word : goal.returns-in-Word
returns-in-Word c = λ cs fails.
    misfits cs (map assignment_of c.args.values.now) c.args.next (length c.args.values.now) c.ranges.next.fits c.requires.behind (sym (length-map c.args.values.now assignment_of)) c.in-Word.i
    c.wrong_value.result c.wrong_value.ensures (subst (Fails cs (good_front (map assignment_of c.args.values.now))) c.in-Word.is fails)
