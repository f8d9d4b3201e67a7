use Rattle.jani_tree.specs.Syntax.{automaton_of}
use Rattle.jani_check.specs.Phases.{automaton_by}
use Rattle.jani_check.specs.Scopes.{thing_under}
use Rattle.name_rules.proofs.Append.{soonest_next}
use Rattle.jani_check.proofs.phase.judge_automata.Goals as goal

pub loop-a-preserved : goal.loop-a-preserved
loop-a-preserved g c =
    soonest_next automaton_of (automaton_by g.P.Phase.of_var g.P.Phase.of_demand (g.P.Phase.of_rest c.args.phase.now) (thing_under c.args.global.now)) c.args.automata.now c.loop-a.a-index _ _ _ _
    c.loop-a-test.true c.a-item.is c.in_ok-best.ensures c.loop-a.invariant
