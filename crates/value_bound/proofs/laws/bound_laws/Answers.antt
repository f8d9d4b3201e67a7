use Rattle.value_bound.proofs.Reached.{certificates_bound}
use Rattle.value_bound.proofs.Strategic.{best_is_greatest}
use Rattle.value_bound.proofs.OwnReached.{own_at_most}
use Rattle.value_bound.proofs.OwnStrategic.{own_best_is_greatest}
use Rattle.value_bound.proofs.Told.{bounds_once}
use Rattle.value_bound.proofs.Once.{one_answer}
use Rattle.value_bound.proofs.Certified.{yes_certifies}
use Rattle.value_bound.proofs.laws.bound_laws.Goals as goal

pub returns : goal.returns
returns c =
    let f = c.form_laws.ensures in
    let v = c.verdict_laws.ensures in
    let m = c.merging_laws.ensures in
    let once = bounds_once v.one_rows in
    record {
      certificates = certificates_bound;
      greatest = best_is_greatest;
      own = own_at_most m;
      own_greatest = own_best_is_greatest;
      once = once;
      answer = one_answer f.one_states f.one_rows f.one_bounds once;
      yes = yes_certifies m f.rows v.rows f.weights f.bounds;
    }
