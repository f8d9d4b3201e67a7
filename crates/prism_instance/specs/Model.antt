-- A PRISM file under given constants as a model that a network is of. (PRISM manual, "The PRISM Language".)
use Rattle.std.specs.Prelude.{◌≡◌, []}
use Rattle.state_choices.specs.Codes.{one_faults, one_truth}
use Rattle.process_core.specs.Instance.{Valuation, instance_faults}
use Rattle.instance_start.specs.Firsts.{BeginRight}
use Rattle.prism_tree.specs.Syntax.{File}
use Rattle.prism_flat.specs.Scene.{columns_of, scene}

-- no fault, and what begins with a value of the right type
pub record IsFaultless (file : File) (v : Valuation) : Type 0 where
  pub faultless : instance_faults (scene file v) ≡ []
  pub begin : BeginRight (columns_of file v)

pub IsFaultless-prop : (file : File) (v : Valuation) → IsProp (IsFaultless file v)
IsFaultless-prop file v = hlevel (one_faults, one_truth)
