use Rattle.std.proofs.Common.{rules, arith, ◌≡◌, subst}
use Rattle.instance_start.specs.Started.{FailsToStart}
use Rattle.walk_texts.specs.Lines.{fault_lines}
use Rattle.model_process.specs.declared.ending.Ending.TheVariants.{Faulty}
use Rattle.model_process.proofs.Starts.{if_wide, is_faulty, misfits, past}
use Rattle.model_process.proofs.starting.ending_of_fail.Goals as goal

pub returns-in-Word : goal.returns-in-Word
returns-in-Word c = λ d before given a f behind fails.
    misfits d before given c.args.next c.args.all c.in-Word.i c.ranges.next.fits behind a
    c.wrong_value.result c.wrong_value.ensures (subst (FailsToStart d _) c.in-Word.is fails)

pub returns-then-front-all : goal.returns-then-front-all
returns-then-front-all c = λ d before given a f behind fails.
    past d before given c.args.next c.args.all c.args.front c.ranges.next.fits behind a f c.if-front-all.true
    c.wrong_value-then-front-all.result c.wrong_value-then-front-all.ensures (subst (FailsToStart d _) c.in-Wide.is fails).0

pub returns-else-front-all : goal.returns-else-front-all
returns-else-front-all c = λ d before given a f behind fails.
    if_wide d before given c.args.all c.args.front a f (λ lt. let ge = c.if-front-all.false in omega (arith, lt, ge))
    c.wide_instance.result c.wide_instance.ensures (subst (FailsToStart d _) c.in-Wide.is fails)

pub returns-then-front-all-2 : goal.returns-then-front-all-2
returns-then-front-all-2 c = λ d before given a f behind fails.
    past d before given c.args.next c.args.all c.args.front c.ranges.next.fits behind a f c.if-front-all-2.true
    c.wrong_value-then-front-all-2.result c.wrong_value-then-front-all-2.ensures (subst (FailsToStart d _) c.in-Faults.is fails).0

pub returns-in_ok-fault_lines-in-Faults : goal.returns-in_ok-fault_lines-in-Faults
returns-in_ok-fault_lines-in-Faults c = λ d before given a f behind fails.
    let made : Faulty c.in_ok-fault_lines-in-Faults.field-0 ≡ Faulty (fault_lines c.in-Faults.faults) = search rules in
    is_faulty d before given c.args.all c.args.front a f (λ lt. let ge = c.if-front-all-2.false in omega (arith, lt, ge))
    c.in-Faults.faults (Faulty c.in_ok-fault_lines-in-Faults.field-0) made (subst (FailsToStart d _) c.in-Faults.is fails)
