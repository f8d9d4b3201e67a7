use Rattle.std.specs.Prelude.{◌≡◌, None, IfOk}
use Rattle.std.proofs.Common.{subst}
use Rattle.prism_tree.specs.Syntax.{file_of}
use Rattle.name_rules.specs.Least.{soonest}
use Rattle.prism_check.specs.NameFaults.{doubled_names, unknown_names}
use Rattle.prism_check.proofs.names.judge_declared.Goals as goal

pub judge_unknown_names-judged-requires : goal.judge_unknown_names-judged-requires
judge_unknown_names-judged-requires c = rw c.in_ok-twice.ensures.ok.1 at c.scope.ensures

pub returns : goal.returns
returns c =
    let f = file_of c.args.file.now in
    let twice : c.in_ok-twice.twice ≡ soonest None (doubled_names f) = rw c.in_ok-twice.ensures.ok.0 at c.judge_twice-twice.ensures in
    subst (λ found. IfOk c.judge_unknown_names-judged.result (λ best. best ≡ soonest found (unknown_names f))) twice c.judge_unknown_names-judged.ensures
