use Rattle.std.specs.Prelude.{◌++◌, Bool}
use Rattle.std.proofs.Common.{◌∙◌, sym, ap, ap₂}
use Rattle.bridge_io.specs.declared.reason.Reason.TheVariants.{NotConstant}
use Rattle.op_trees.specs.Tree.{tree}
use Rattle.name_rules.specs.Least.{fault_if}
use Rattle.prism_check.specs.TypeFaults.{type_faults_of}
use Rattle.prism_check.specs.Typing.{faults_in, soonest_at, type_of}
use Rattle.prism_check.specs.Views.{demand_by}
use Rattle.prism_check.proofs.TypesPlaced.{at_then}
use Rattle.prism_check.proofs.types.judge_demand.Goals as goal

pub returns-in-Fixed : goal.returns-in-Fixed
returns-in-Fixed c =
    let place = c.args.spot.place in
    let typed = type_faults_of (type_of c.args.names.now) c.in-Fixed.wanted (tree c.in-Fixed.e.now) in
    c.sooner_at.ensures
    ∙ at_then place c.args.best c.judge_type-first.result typed (fault_if c.varies.result c.offset_of.result NotConstant) c.judge_type-first.ensures
    ∙ ap₂ (λ (b : Bool) k. soonest_at place c.args.best (typed ++ fault_if b k NotConstant)) c.varies.ensures c.offset_of.ensures
    ∙ ap (λ d. soonest_at place c.args.best (faults_in c.args.names.now c.args.spot.number (demand_by d))) (sym c.in-Fixed.is)
