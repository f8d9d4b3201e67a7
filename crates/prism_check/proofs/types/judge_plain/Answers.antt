use Rattle.std.specs.Prelude.{map, IfOk}
use Rattle.std.proofs.Common.{◌≡◌, ◌∙◌, sym, ap, ap₂, subst}
use Rattle.prism_tree.specs.Syntax.{command_of, module_of, var_of}
use Rattle.prism_check.specs.Typing.{contents_faults, contents_in, soonest_at}
use Rattle.prism_check.proofs.types.judge_plain.Goals as goal

pub returns-in-Plain : goal.returns-in-Plain
returns-in-Plain c =
    let place = c.args.spot.place in
    let n = c.args.names.now in
    let i = c.args.spot.number in
    subst (λ o. IfOk c.judge_contents.result (λ best. best ≡ o))
    (ap₂ (λ xs cs. soonest_at place c.args.before (contents_in n i (map var_of xs) (map command_of cs))) c.as_slice.ensures c.as_slice-in-Plain.ensures
    ∙ ap (λ e. soonest_at place c.args.before (contents_faults n i (module_of e))) (sym c.in-Plain.is))
    c.judge_contents.ensures
