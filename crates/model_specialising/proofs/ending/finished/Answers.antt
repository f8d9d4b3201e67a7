use Rattle.std.proofs.Common.{arith, sym, map, length, inl, inr}
use Rattle.std.proofs.lemmas.List.{length-map}
use Rattle.command_words.specs.Given.{assignment_of}
use Rattle.model_specialising.proofs.Ended.{past, whole}
use Rattle.model_specialising.proofs.ending.finished.Goals as goal

pub returns-then-front-all : goal.returns-then-front-all
returns-then-front-all c = λ cs fits.
    inl (past cs (map assignment_of c.args.values.now) c.args.next (length c.args.values.now) c.ranges.next.fits c.requires.behind (sym (length-map c.args.values.now assignment_of))
    c.args.front c.requires.front fits c.if-front-all.true c.wrong_value.result c.wrong_value.ensures)

pub returns : goal.returns
returns c = λ cs fits.
    inr (whole cs (map assignment_of c.args.values.now) c.args.next (length c.args.values.now) c.ranges.next.fits c.requires.behind (sym (length-map c.args.values.now assignment_of))
    c.args.front c.requires.front fits (λ lt. let ge = c.if-front-all.false in omega (arith, lt, ge)) c.args.text)
