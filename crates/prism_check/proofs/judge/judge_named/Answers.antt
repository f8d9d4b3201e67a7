use Rattle.std.proofs.Common.{◌∙◌, sym}
use Rattle.prism_tree.specs.Syntax.{file_of}
use Rattle.prism_check.proofs.AllFaults.{least_size, least_type, no_faults}
use Rattle.prism_check.proofs.Limits.{too_large_faults, within_faults}
use Rattle.prism_check.proofs.judge.judge_named.Goals as goal

pub returns-in-Some : goal.returns-in-Some
returns-in-Some c =
    let f = file_of c.args.file.now in
    let within = within_faults f c.in-Within.commands (sym c.in-Within.is ∙ c.in_ok-judge_sizes.ensures) in
    least_type f c.in-Some.fault c.requires.names within.0 (sym c.in_ok-fault-in-Within.ensures ∙ c.in-Some.is)

pub returns-in-None : goal.returns-in-None
returns-in-None c =
    let f = file_of c.args.file.now in
    let within = within_faults f c.in-Within.commands (sym c.in-Within.is ∙ c.in_ok-judge_sizes.ensures) in
    (no_faults f c.requires.names within.0 (sym c.in_ok-fault-in-Within.ensures ∙ c.in-None.is), c.requires.order, within.1)

pub returns-in-TooLarge : goal.returns-in-TooLarge
returns-in-TooLarge c =
    let f = file_of c.args.file.now in
    least_size f _ c.requires.names (too_large_faults f (sym c.in-TooLarge.is ∙ c.in_ok-judge_sizes.ensures))
