use Rattle.std.proofs.Common.{List, ◌∙◌, ap, sym, ◌||◌, nat_lt}
use Rattle.std.specs.List.{sum_by}
use Rattle.std.proofs.lemmas.Bool.{lt-ltb, le-ltb}
use Rattle.basics.specs.Lists.{at_take_all}
use Rattle.op_trees.specs.Tree.{capped}
use Rattle.state_choices.specs.declared.data.Group.{Group}
use Rattle.state_choices.specs.Views.{group_of}
use Rattle.state_choices.specs.Counted.{choice_count, branch_total}
use Rattle.state_choices.proofs.Counting.{too_many_trimmed}
use Rattle.state_choices.proofs.bounds.is_too_many.Goals as goal

pub returns-then-choices-gt65536 : goal.returns-then-choices-gt65536
returns-then-choices-gt65536 c =
    let gs = c.args.groups.now in
    let l = c.loop-group in
    let t = lt-ltb 65536 l.choices c.if-choices-gt65536.true in
    t
    ∙ ap (λ b. b || nat_lt 1000000 l.branches) (sym t)
    ∙ too_many_trimmed gs l.choices l.branches
    (l.invariant.choices ∙ at_take_all (λ (gs : List Group). capped (sum_by (λ g. choice_count (group_of g)) gs)) gs l.group-index c.loop-group-test.false)
    (l.invariant.branches ∙ at_take_all (λ (gs : List Group). capped (sum_by (λ g. branch_total (group_of g)) gs)) gs l.group-index c.loop-group-test.false)

pub returns-else-choices-gt65536 : goal.returns-else-choices-gt65536
returns-else-choices-gt65536 c =
    let gs = c.args.groups.now in
    let l = c.loop-group in
    ap (λ b. b || nat_lt 1000000 l.branches) (sym (le-ltb 65536 l.choices c.if-choices-gt65536.false))
    ∙ too_many_trimmed gs l.choices l.branches
    (l.invariant.choices ∙ at_take_all (λ (gs : List Group). capped (sum_by (λ g. choice_count (group_of g)) gs)) gs l.group-index c.loop-group-test.false)
    (l.invariant.branches ∙ at_take_all (λ (gs : List Group). capped (sum_by (λ g. branch_total (group_of g)) gs)) gs l.group-index c.loop-group-test.false)
