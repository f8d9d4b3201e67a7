use Rattle.std.proofs.Common.{◌≡◌, IfOk, map, subst}
use Rattle.instance_start.specs.Columns.{constant_of}
use Rattle.model_carrying.specs.Values.{values_there}
use Rattle.model_carrying.proofs.values.values_there.Goals as goal

pub returns : goal.returns
returns c =
    subst (λ v. IfOk c.values_by.result (λ gs. gs ≡ values_there (map constant_of c.args.here.now) (map constant_of c.args.there.now) v)) c.in_ok-values.ensures c.values_by.ensures
