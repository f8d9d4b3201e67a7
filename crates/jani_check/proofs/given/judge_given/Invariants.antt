use Rattle.std.specs.Prelude.{◌≡◌, false, map, drop}
use Rattle.name_rules.specs.Least.{soonest}
use Rattle.jani_tree.specs.Syntax.{automaton_of}
use Rattle.jani_check.specs.ProfileFaults.{given_after}
use Rattle.jani_check.specs.Scopes.{thing_under}
use Rattle.name_rules.specs.Names.{has_name}
use Rattle.jani_check.proofs.given.judge_given.Given as goal

abbrev pub invariant-loop-a : goal.invariant-loop-a
invariant-loop-a l =
    soonest l.best (given_after (thing_under l.global) (has_name l.earlier) (map automaton_of (drop l.a-index l.automata)))
    ≡ soonest l.fn.before (given_after (thing_under l.global) (λ x. false) (map automaton_of l.automata))
