use Rattle.std.specs.Prelude.{◌≡◌, map, drop}
use Rattle.std.specs.List.{flat_map}
use Rattle.name_rules.specs.Least.{soonest}
use Rattle.jani_tree.specs.Syntax.{automaton_of}
use Rattle.jani_check.specs.Phases.{automaton_by}
use Rattle.jani_check.specs.Scopes.{thing_under}
use Rattle.jani_check.proofs.phase.judge_automata.Given as goal

abbrev pub invariant-loop-a : goal.invariant-loop-a
invariant-loop-a g l =
    let faults = automaton_by g.P.Phase.of_var g.P.Phase.of_demand (g.P.Phase.of_rest l.phase) (thing_under l.global) in
    soonest l.best (flat_map faults (map automaton_of (drop l.a-index l.automata))) ≡ soonest l.fn.before (flat_map faults (map automaton_of l.automata))
