use Rattle.std.specs.Prelude.{map, None}
use Rattle.std.proofs.Common.{◌∙◌, ap, sym}
use Rattle.name_rules.specs.Least.{soonest, or_else}
use Rattle.prop_grammar.specs.Syntax.{written_of}
use Rattle.prop_trees.specs.PrismFaults.{name_faults, size_faults, type_faults}
use Rattle.prop_check.specs.Views.{part_of}
use Rattle.prop_check.proofs.Phases.{first_fault, past_first}
use Rattle.prop_check.proofs.judging.judge_properties.Goals as goal

pub judge_names-requires : goal.judge_names-requires
judge_names-requires c = ap (map part_of) c.deref.ensures.value ∙ c.in_ok-parts.ensures

pub returns-in-Some : goal.returns-in-Some
returns-in-Some c =
    let file = c.args.scope.now.file in
    let ps = map written_of c.args.all.now in
    sym (first_fault (name_faults file ps) (or_else (size_faults file ps) (type_faults file ps)) c.in-Some.fault (sym c.in_ok-fault.ensures ∙ c.in-Some.is))

pub returns : goal.returns
returns c =
    let file = c.args.scope.now.file in
    let ps = map written_of c.args.all.now in
    c.judge_named.ensures ps (ap (map part_of) c.deref-in-None.ensures.value ∙ c.in_ok-parts.ensures)
    ∙ ap (soonest None) (sym (past_first (name_faults file ps) (or_else (size_faults file ps) (type_faults file ps)) (sym c.in_ok-fault.ensures ∙ c.in-None.is)))
