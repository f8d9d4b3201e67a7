use Rattle.std.specs.Prelude.{List, ◌++◌}
use Rattle.bridge_io.specs.declared.reason.Fault.{Fault}
use Rattle.op_trees.specs.declared.wanted.Wanted.{Wanted}
use Rattle.std.proofs.Common.{◌∙◌, ap}
use Rattle.op_trees.specs.Tree.{tree}
use Rattle.prism_check.specs.TypeFaults.{Target, type_faults_of, wanted_at, write_faults}
use Rattle.prism_check.specs.Typing.{soonest_at, target_in, target_view, type_of}
use Rattle.prism_check.proofs.TypesPlaced.{at_then}
use Rattle.prism_check.proofs.writes.judge_write.Goals as goal

pub returns : goal.returns
returns c =
    let ty = type_of c.args.names.now in
    let w = c.args.write.now in
    let t = target_view c.target_named-target.result in
    let faults : Target → Wanted → List Fault = λ g wanted. write_faults g c.args.acts w.name.at ++ type_faults_of ty wanted (tree w.value) in
    let place = c.args.spot.place in
    c.judge_type.ensures
    ∙ at_then place c.args.best c.judge_target-first.result (write_faults t c.args.acts w.name.at) (type_faults_of ty c.wanted_at.result (tree w.value))
    c.judge_target-first.ensures
    ∙ ap (λ wanted. soonest_at place c.args.best (faults t wanted)) c.wanted_at.ensures
    ∙ ap (λ g. soonest_at place c.args.best (faults g (wanted_at g))) (c.target_named-target.ensures ∙ ap (target_in c.args.names.now c.args.spot.number) c.as_str.ensures)
