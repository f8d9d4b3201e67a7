-- What the code's demands stand for.
use Rattle.op_trees.specs.Tree.{tree}
use Rattle.prism_tree.specs.Syntax.{write_of}
use Rattle.prism_check.specs.declared.demands.Demand as D
use Rattle.prism_check.specs.declared.demands.Demand.TheVariants as V
use Rattle.prism_check.specs.Demands.{Demand, fixed, varying, written}

abbrev pub demand_by : D.Demand → Demand
demand_by (V.Fixed w e) = fixed w (tree e.now)
demand_by (V.Varying w e) = varying w (tree e.now)
demand_by (V.Written acts w) = written acts (write_of w.now)
