use Rattle.jani_instance.proofs.Prepared.{prepared_final, prepared_still}
use Rattle.jani_instance.proofs.start.what_is_prepared.Goals as goal

pub returns : goal.returns
returns c = record {
  elements_are = prepared_final _ _ _ _ (prepared_still _ _ _ _ _ c.in_ok-elements.ensures c.in_ok-transients.ensures.grown);
  transients_are = prepared_final _ _ _ _ c.in_ok-transients.ensures;
}
