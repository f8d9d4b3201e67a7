use Rattle.std.specs.Prelude.{map, None}
use Rattle.std.specs.List.{flat_map}
use Rattle.std.proofs.Common.{◌∙◌, ap}
use Rattle.bridge_io.specs.declared.reason.Reason.TheVariants.{TwiceNamed}
use Rattle.name_rules.specs.Doubled.{doubled}
use Rattle.name_rules.specs.Least.{soonest}
use Rattle.name_rules.specs.Names.{named_by}
use Rattle.name_rules.proofs.Append.{three_parts}
use Rattle.prop_grammar.specs.Syntax.{written_of}
use Rattle.prop_trees.specs.PrismFaults.{all_parts, structures, titles, unknown_in, unknown_structure}
use Rattle.prop_check.proofs.names.judge_names.Goals as goal

pub returns : goal.returns
returns c =
    let file = c.args.scope.now.file in
    let ps = map written_of c.args.all.now in
    let doubled_found = c.in_ok-doubled.doubled in
    let structured = c.judge_structures-structured.result in
    c.judge_parts.ensures
    ∙ ap (λ xs. soonest structured (flat_map (unknown_in file) xs)) c.requires
    ∙ three_parts (doubled TwiceNamed (titles ps)) (flat_map (unknown_structure file) (structures ps)) (flat_map (unknown_in file) (all_parts ps))
    None doubled_found structured
    (c.in_ok-doubled.ensures ∙ ap (λ ns. soonest None (doubled TwiceNamed ns)) (ap (map named_by) c.deref.ensures.value ∙ c.in_ok-titles.ensures))
    c.judge_structures-structured.ensures
