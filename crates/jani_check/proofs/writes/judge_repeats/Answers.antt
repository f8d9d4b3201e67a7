use Rattle.std.specs.Prelude.{◌≡◌, map}
use Rattle.std.specs.List.{flat_map}
use Rattle.std.proofs.Common.{◌∙◌, ap}
use Rattle.std.proofs.lemmas.Result.{IfOk-weaker}
use Rattle.name_rules.specs.Least.{soonest}
use Rattle.jani_tree.specs.Syntax.{automaton_of, edge_of, location_of}
use Rattle.jani_check.specs.TypeFaults.{edge_repeats, repeated, repeated_writes}
use Rattle.name_rules.proofs.Append.{soonest_then}
use Rattle.jani_check.proofs.writes.judge_repeats.Goals as goal

pub returns : goal.returns
returns c =
    let a = automaton_of c.args.a.now in
    let b1 = c.in_ok-in_locations.in_locations in
    IfOk-weaker c.judge_each-2.result
    (λ best. best ≡ soonest b1 (flat_map edge_repeats (map edge_of c.as_slice-2.result.now)))
    (λ best. best ≡ soonest c.args.before (repeated_writes a))
    (λ best h.
    h
    ∙ ap (λ es. soonest b1 (flat_map edge_repeats (map edge_of es))) c.as_slice-2.ensures
    ∙ soonest_then c.args.before b1 (flat_map (λ l. repeated l.values) a.locations) (flat_map edge_repeats a.edges)
    (c.in_ok-in_locations.ensures ∙ ap (λ ls. soonest c.args.before (flat_map (λ l. repeated l.values) (map location_of ls))) c.as_slice.ensures))
    c.judge_each-2.ensures
