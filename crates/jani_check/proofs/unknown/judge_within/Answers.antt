use Rattle.std.specs.Prelude.{◌≡◌, map}
use Rattle.std.specs.List.{flat_map}
use Rattle.std.proofs.Common.{◌∙◌, ap, ap₂}
use Rattle.std.proofs.lemmas.Result.{IfOk-weaker}
use Rattle.name_rules.specs.Least.{soonest}
use Rattle.basics.specs.Lists.{flat_map_of}
use Rattle.jani_tree.specs.Syntax.{automaton_of, edge_of, location_of}
use Rattle.basics.specs.Options.{if_some}
use Rattle.jani_check.specs.NameFaults.{actions_used, edge_locations, location_names, locations_used, unknown_within, unless_known}
use Rattle.name_rules.specs.Names.{is_among}
use Rattle.name_rules.specs.Names.{has_name}
use Rattle.name_rules.proofs.Append.{soonest_both, soonest_then}
use Rattle.jani_check.proofs.Parts.{each_itself, each_name}
use Rattle.jani_check.proofs.unknown.judge_within.Goals as goal

pub returns : goal.returns
returns c =
    let code = c.args.a.now in
    let a = automaton_of code in
    let b0 = c.args.before in
    let b1 = c.in_ok-in_initial.in_initial in
    let b2 = c.in_ok-in_edges.in_edges in
    let actions = has_name c.args.actions.now in
    let used = flat_map edge_locations a.edges in
    let locations : has_name c.in_ok-locations.locations ≡ is_among (location_names a) =
    c.in_ok-locations.ensures ∙ ap is_among (each_name (λ l. l.name) location_of _ code.locations c.as_slice.ensures) in
    IfOk-weaker c.judge_actions.result
    (λ best. best ≡ soonest b2 (flat_map (unless_known actions) (flat_map (λ e. if_some e.action) (map edge_of c.as_slice-4.result.now))))
    (λ best. best ≡ soonest b0 (unknown_within actions a))
    (λ best h.
    h
    ∙ ap (λ es. soonest b2 (flat_map (unless_known actions) (flat_map (λ e. if_some e.action) (map edge_of es)))) c.as_slice-4.ensures
    ∙ soonest_then b0 b2 (flat_map (unless_known (is_among (location_names a))) (locations_used a)) (flat_map (unless_known actions) (actions_used a))
    (soonest_both (unless_known (is_among (location_names a))) a.initial used b0 b1 b2
    (c.in_ok-in_initial.ensures ∙ ap₂ (λ k ns. soonest b0 (flat_map (unless_known k) ns)) locations (each_itself _ a.initial c.as_slice-2.ensures))
    (c.in_ok-in_edges.ensures ∙ ap₂ (λ k ns. soonest b1 (flat_map (unless_known k) ns)) locations (flat_map_of edge_locations edge_of _ code.edges c.as_slice-3.ensures))))
    c.judge_actions.ensures
