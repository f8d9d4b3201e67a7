-- What the code's lists stand for.
use Rattle.op_trees.specs.Tree.{tree}
use Rattle.jani_tree.specs.Syntax.{write_of}
use Rattle.jani_check.specs.declared.demands.Demand as D
use Rattle.jani_check.specs.declared.demands.Demand.TheVariants as V
use Rattle.jani_check.specs.Demands.{Demand, fixed, varying, assigned, given}

abbrev pub demand_by : D.Demand → Demand
demand_by (V.Fixed w e) = fixed w (tree e.now)
demand_by (V.Varying w e) = varying w (tree e.now)
demand_by (V.Assigned w) = assigned (write_of w.now)
demand_by (V.Given w) = given (write_of w.now)
