use Rattle.std.proofs.Common.{subst}
use Rattle.std.specs.Prelude.{Err}
use Rattle.model_carrying.specs.Pairs.{BeginsBoth, MayBothToJani, counterpart_of}
use Rattle.model_carrying.proofs.Ended.{to_jani}
use Rattle.model_carrying.proofs.from_prism.ended.Goals as goal

pub returns-in-Ok : goal.returns-in-Ok
returns-in-Ok g c = λ d e k lang begins.
    let o = counterpart_of e c.args.map.now in
    let begun = subst (BeginsBoth g.S.Steps.process g.T.Steps.process d o k) c.in-Ok.is begins in
    to_jani d o k c.args.path.now begun.0 (g.S.Steps.process c.in-Ok.here) (g.T.Steps.process c.in-Ok.there) lang begun.1 begun.2 c.carried.result c.carried.ensures

pub returns-in-Err-Ended : goal.returns-in-Err-Ended
returns-in-Err-Ended g c = λ d e k lang begins.
    let o = counterpart_of e c.args.map.now in
    rw c.in-Err-Ended.field-0-is
    (subst (λ u. BeginsBoth g.S.Steps.process g.T.Steps.process d o k (Err u)) c.in-Err-Ended.field-0-is
    (subst (BeginsBoth g.S.Steps.process g.T.Steps.process d o k) c.in-Err-Ended.is begins) c.args.path.now)

pub carried-requires : goal.carried-requires
carried-requires g c = subst (MayBothToJani g.S.Steps.process g.T.Steps.process c.args.map.now) c.in-Ok.is c.requires
