use Rattle.std.proofs.Common.{arith, sym, subst, map, length}
use Rattle.std.proofs.lemmas.List.{length-map}
use Rattle.command_words.specs.Given.{assignment_of}
use Rattle.instance_start.specs.Started.{Starts}
use Rattle.model_process.proofs.Starts.{is_started, past}
use Rattle.model_process.proofs.starting.begun.Goals as goal

pub returns-then-front-all : goal.returns-then-front-all
returns-then-front-all g c = λ d before behind starts.
    past d before (map assignment_of c.args.given.now) c.args.next (length c.args.given.now) c.args.front c.ranges.next.fits behind (sym (length-map c.args.given.now assignment_of)) c.requires.front
    c.if-front-all.true c.wrong_value.result c.wrong_value.ensures (subst (Starts g.S.Steps.process d _) c.in-Ok.is starts).fits

pub returns-else-front-all : goal.returns-else-front-all
returns-else-front-all g c = λ d before behind starts.
    is_started d before (map assignment_of c.args.given.now) (length c.args.given.now) c.args.front (sym (length-map c.args.given.now assignment_of)) c.requires.front
    (λ lt. let ge = c.if-front-all.false in omega (arith, lt, ge)) (g.S.Steps.process c.in-Ok.instance) (subst (Starts g.S.Steps.process d _) c.in-Ok.is starts)

pub returns-in-Ok-ending_of_fail : goal.returns-in-Ok-ending_of_fail
returns-in-Ok-ending_of_fail g c = λ d before behind starts.
    c.in-Ok-ending_of_fail.ensures d before (map assignment_of c.args.given.now) (sym (length-map c.args.given.now assignment_of)) c.requires.front behind
    (subst (Starts g.S.Steps.process d _) c.in-Err.is starts)
