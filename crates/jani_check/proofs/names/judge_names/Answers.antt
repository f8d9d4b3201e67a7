use Rattle.std.specs.Prelude.{◌≡◌, map}
use Rattle.std.specs.List.{flat_map}
use Rattle.std.proofs.Common.{◌∙◌, ap}
use Rattle.std.proofs.lemmas.Result.{IfOk-weaker}
use Rattle.name_rules.specs.Least.{soonest}
use Rattle.jani_tree.specs.Syntax.{const_of, file_of}
use Rattle.jani_check.specs.NameFaults.{circles, circular, composition_faults, doubled_names, name_faults, unknown_names}
use Rattle.name_rules.proofs.Append.{four_parts}
use Rattle.jani_check.proofs.names.judge_names.Goals as goal

pub returns : goal.returns
returns c =
    let f = file_of c.args.file.now in
    let b1 = c.in_ok-twice.twice in
    let b2 = c.in_ok-unknown.unknown in
    let b3 = c.in_ok-circles.circles in
    IfOk-weaker c.judge_composition.result (λ best. best ≡ soonest b3 (composition_faults f)) (λ best. best ≡ soonest c.args.before (name_faults f))
    (λ best h.
    h
    ∙ four_parts (doubled_names f) (unknown_names f) (circles f) (composition_faults f) c.args.before b1 b2 b3
    c.in_ok-twice.ensures c.in_ok-unknown.ensures
    (c.in_ok-circles.ensures ∙ ap (λ l. soonest b2 (flat_map (circular (map const_of l)) (map const_of l))) c.as_slice.ensures))
    c.judge_composition.ensures
