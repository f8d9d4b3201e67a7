use Rattle.std.proofs.Common.{subst}
use Rattle.std.specs.Prelude.{Err}
use Rattle.model_process.specs.Starts.{Begins}
use Rattle.model_carrying.specs.Pairs.{StartsThere}
use Rattle.model_carrying.proofs.Started.{both_started, here_ends, there_fails}
use Rattle.model_carrying.proofs.starting.both.Goals as goal

pub returns-in-Ok-there : goal.returns-in-Ok-there
returns-in-Ok-there g c = record {
  begins = λ d o k pair here there. both_started g.S.Steps.process g.T.Steps.process d o k pair c.in-Ok.here c.in-Ok-there.there
      (subst (Begins g.S.Steps.process d 4 k.given) c.in-Ok.is here) (subst (StartsThere g.T.Steps.process d o k.given) c.in-Ok-there.is there);
  from = (c.in-Ok.is, c.in-Ok-there.is);
}

pub returns-in-Err : goal.returns-in-Err
returns-in-Err g c = record {
  begins = λ d o k pair here there. there_fails g.S.Steps.process g.T.Steps.process d o k pair c.in-Err.fail c.not_there.result
      (subst (Begins g.S.Steps.process d 4 k.given) c.in-Ok.is here).0 (subst (StartsThere g.T.Steps.process d o k.given) c.in-Err.is there) c.not_there.ensures;
  from = tt;
}

pub returns-in-Err-Ended : goal.returns-in-Err-Ended
returns-in-Err-Ended g c = record {
  begins = λ d o k pair here there. here_ends g.S.Steps.process g.T.Steps.process d o k pair c.in-Err-Ended.ending c.args.there c.not_here.result
      (subst (λ u. Begins g.S.Steps.process d 4 k.given (Err u)) c.in-Err-Ended.field-0-is (subst (Begins g.S.Steps.process d 4 k.given) c.in-Err-Ended.is here)) there c.not_here.ensures;
  from = tt;
}
