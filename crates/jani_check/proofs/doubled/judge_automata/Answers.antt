use Rattle.jani_tree.specs.Syntax.{automaton_of}
use Rattle.jani_check.specs.NameFaults.{doubled_in}
use Rattle.name_rules.proofs.Append.{soonest_next}
use Rattle.jani_check.proofs.doubled.judge_automata.Goals as goal

pub loop-a-preserved : goal.loop-a-preserved
loop-a-preserved c = λ ns known.
    soonest_next automaton_of (doubled_in ns) c.args.automata.now c.loop-a.a-index _ _ _ _
    c.loop-a-test.true c.a-item.is (c.in_ok-best.ensures ns known) (c.loop-a.invariant ns known)
