-- What a model file describes, in whichever language it is: which constants it has and which of them it leaves open, and,
-- under a valuation, what it comes out as and the process that it is. (PRISM manual, "The PRISM Language": "Constants";
-- jani-model specification, version 1: "Models".)
use Rattle.std.specs.Prelude.{List, Bool}
use Rattle.op_trees.specs.declared.tree.Ty.{Ty}
use Rattle.process_core.specs.Ready.{Name}
use Rattle.process_core.specs.Instance.{Valuation, Scene}
use Rattle.process_core.specs.Steps.{Process}

-- a constant: its name, its type, and whether it is left open
pub record Constant : Type 0 where
  pub name : Name
  pub ty : Ty
  pub is_open : Bool

pub record Description : Type 0 where
  pub constants : List Constant
  pub scene : Valuation → Scene
  pub process : Valuation → Process
