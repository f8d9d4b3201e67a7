use Rattle.std.specs.Prelude.{map, None}
use Rattle.std.specs.List.{flat_map}
use Rattle.std.proofs.Common.{◌∙◌, ap}
use Rattle.bridge_io.specs.declared.reason.Reason.TheVariants.{TwiceNamed}
use Rattle.name_rules.specs.Least.{soonest}
use Rattle.name_rules.specs.Names.{named_by}
use Rattle.name_rules.specs.Doubled.{doubled}
use Rattle.name_rules.proofs.Append.{soonest_then}
use Rattle.jani_props.specs.Faults.{titles, unknown_names}
use Rattle.jani_props.specs.Model.{numbers_of, things_of}
use Rattle.jani_props.specs.Syntax.{written_of}
use Rattle.jani_props.proofs.names.judge_names.Goals as goal

pub returns : goal.returns
returns c =
    let ps = map written_of c.args.written.now in
    c.in_ok-best.ensures
    ∙ soonest_then None c.in_ok-doubled.doubled (doubled TwiceNamed (titles ps)) (flat_map (unknown_names (things_of c.args.names.now) (numbers_of c.args.names.now)) ps)
    (c.in_ok-doubled.ensures ∙ ap (λ ns. soonest None (doubled TwiceNamed ns)) (ap (map named_by) c.deref.ensures.value ∙ c.in_ok-titles.ensures))
