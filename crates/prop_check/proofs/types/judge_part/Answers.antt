use Rattle.std.specs.Prelude.{◌++◌}
use Rattle.std.proofs.Common.{◌∙◌, ap, sym, append-nil}
use Rattle.op_trees.specs.Tree.{tree}
use Rattle.name_rules.specs.Least.{soonest}
use Rattle.name_rules.proofs.Append.{soonest_then}
use Rattle.prop_trees.specs.PrismFaults.{constant_faults, type_faults_of}
use Rattle.prop_trees.specs.Syntax.{role_of}
use Rattle.prop_check.proofs.types.judge_part.Goals as goal

pub returns-in-State : goal.returns-in-State
returns-in-State c =
    let file = c.args.scope.now.file in
    let e = tree c.args.part.now.e.now in
    let typed = type_faults_of file (role_of c.args.part.now.role) e in
    c.judge_type-typed.ensures
    ∙ ap (soonest c.args.best) (sym (append-nil typed))
    ∙ ap (λ ys. soonest c.args.best (typed ++ ys)) (sym (ap (λ r. constant_faults file (role_of r) e) c.in-State.is))

pub returns-in-Steps : goal.returns-in-Steps
returns-in-Steps c =
    let file = c.args.scope.now.file in
    let e = tree c.args.part.now.e.now in
    let typed = type_faults_of file (role_of c.args.part.now.role) e in
    let constant = ap (λ r. constant_faults file (role_of r) e) c.in-Steps.is in
    c.judge_constant.ensures
    ∙ ap (soonest c.judge_type-typed.result) (sym constant)
    ∙ soonest_then c.args.best c.judge_type-typed.result typed (constant_faults file (role_of c.args.part.now.role) e) c.judge_type-typed.ensures

pub returns-in-Probability : goal.returns-in-Probability
returns-in-Probability c =
    let file = c.args.scope.now.file in
    let e = tree c.args.part.now.e.now in
    let typed = type_faults_of file (role_of c.args.part.now.role) e in
    let constant = ap (λ r. constant_faults file (role_of r) e) c.in-Probability.is in
    c.judge_constant-in-Probability.ensures
    ∙ ap (soonest c.judge_type-typed.result) (sym constant)
    ∙ soonest_then c.args.best c.judge_type-typed.result typed (constant_faults file (role_of c.args.part.now.role) e) c.judge_type-typed.ensures
