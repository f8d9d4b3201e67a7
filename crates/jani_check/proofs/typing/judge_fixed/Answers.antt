use Rattle.std.proofs.Common.{◌∙◌, ap₂}
use Rattle.bridge_io.specs.declared.reason.Reason.TheVariants.{NotConstant}
use Rattle.op_trees.specs.Tree.{tree}
use Rattle.op_trees.specs.Names.{offset_of}
use Rattle.name_rules.specs.Least.{soonest, fault_if}
use Rattle.jani_check.specs.Scopes.{scope_thing}
use Rattle.jani_check.specs.Things.{types_by}
use Rattle.jani_check.specs.TypeFaults.{has_variable, type_faults_of}
use Rattle.name_rules.proofs.Append.{soonest_then}
use Rattle.jani_check.proofs.typing.judge_fixed.Goals as goal

pub returns : goal.returns
returns c =
    let things = scope_thing c.args.scope.now in
    let e = tree c.args.e.now in
    let typed = c.judge_type-typed.result in
    c.sooner_if.ensures
    ∙ ap₂ (λ b o. soonest typed (fault_if b o NotConstant)) c.names_variable.ensures c.offset_of.ensures
    ∙ soonest_then c.args.best typed (type_faults_of (types_by things) c.args.wanted e) (fault_if (has_variable things e) (offset_of e) NotConstant) c.judge_type-typed.ensures
