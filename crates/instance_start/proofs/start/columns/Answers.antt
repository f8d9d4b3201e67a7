use Rattle.std.proofs.Common.{◌∙◌, map, sym, ap}
use Rattle.instance_start.specs.Columns.{constant_of}
use Rattle.instance_start.specs.Started.{named_faults}
use Rattle.instance_start.proofs.Settled.{same_wide, same_scene, faults_are, no_faults, some_fault, settled_answer}
use Rattle.instance_start.proofs.start.columns.Goals as goal

pub returns-then-has_wide : goal.returns-then-has_wide
returns-then-has_wide c k r e f = sym (same_wide k c.args.has_condition c.args.values.now c.args.variables.now r e f) ∙ sym (c.has_wide.ensures c.args.has_condition) ∙ c.if-has_wide.true

pub returns-then-len-eq0 : goal.returns-then-len-eq0
returns-then-len-eq0 c k r e f =
    let w = sym (same_wide k c.args.has_condition c.args.values.now c.args.variables.now r e f) ∙ sym (c.has_wide.ensures c.args.has_condition) ∙ c.if-has_wide.false in
    let same = same_scene k c.args.has_condition c.args.values.now c.args.variables.now r e f w in
    let given = c.in-Ok.ensures ∙ sym (faults_are c.args.has_condition c.args.constants.now c.args.values.now c.args.variables.now c.requires) ∙ ap (named_faults (map constant_of c.args.constants.now)) same in
    settled_answer (λ cs. cs.items) (map constant_of c.args.constants.now) k c.args.variables.now c.settled_columns.result c.settled_columns.ensures w
    (no_faults (map constant_of c.args.constants.now) k c.in-Ok.faults given (sym c.len.ensures ∙ c.if-len-eq0.true))
    (ap (λ s. s.columns) same)

pub returns : goal.returns
returns c k r e f =
    let w = sym (same_wide k c.args.has_condition c.args.values.now c.args.variables.now r e f) ∙ sym (c.has_wide.ensures c.args.has_condition) ∙ c.if-has_wide.false in
    let same = same_scene k c.args.has_condition c.args.values.now c.args.variables.now r e f w in
    let given = c.in-Ok.ensures ∙ sym (faults_are c.args.has_condition c.args.constants.now c.args.values.now c.args.variables.now c.requires) ∙ ap (named_faults (map constant_of c.args.constants.now)) same in
    (w, some_fault (map constant_of c.args.constants.now) k c.in-Ok.faults given (λ l. c.if-len-eq0.false (c.len.ensures ∙ l)), given)
