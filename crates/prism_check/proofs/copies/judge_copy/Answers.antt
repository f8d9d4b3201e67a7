use Rattle.std.proofs.Common.{◌∙◌, sym, ap, ap₂}
use Rattle.std.proofs.Math.Path.{fun_ext}
use Rattle.prism_tree.specs.Syntax.{module_of}
use Rattle.name_rules.specs.Least.{soonest}
use Rattle.prism_check.specs.NameFaults.{is_copy}
use Rattle.prism_check.specs.Tables.{module_under, pair_for, vars_in, lacks_pair_by, copy_faults_by}
use Rattle.prism_check.proofs.CopyParts.{copy_judged}
use Rattle.prism_check.proofs.copies.judge_copy.Goals as goal

pub returns-in_ok-renaming-in-Copied : goal.returns-in_ok-renaming-in-Copied
returns-in_ok-renaming-in-Copied c =
    let called = module_under c.args.modules.now in
    let from = c.called-from.ensures ∙ ap called c.as_str.ensures in
    copy_judged called c.in-Copied.m c.args.before c.sooner_if-first.result c.sooner_if.result c.lacks_pair-lacks.result c.is_copy.result
    c.sooner_if-first.ensures c.sooner_if.ensures
    (c.lacks_pair-lacks.ensures
    ∙ ap₂ lacks_pair_by (fun_ext c.in_ok-renaming-in-Copied.ensures ∙ ap pair_for c.as_slice.ensures) (c.vars_in.ensures ∙ ap vars_in from))
    (c.is_copy.ensures ∙ ap is_copy from)
    ∙ ap (λ e. soonest c.args.before (copy_faults_by called (module_of e))) (sym c.in-Copied.is)
