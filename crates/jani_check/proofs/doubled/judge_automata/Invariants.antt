use Rattle.std.specs.Prelude.{◌≡◌, List, map, drop}
use Rattle.std.specs.List.{flat_map}
use Rattle.bridge_io.specs.declared.reason.Named.{Named}
use Rattle.name_rules.specs.Least.{soonest}
use Rattle.jani_tree.specs.Syntax.{automaton_of}
use Rattle.jani_check.specs.NameFaults.{doubled_in}
use Rattle.name_rules.specs.Doubled.{IsLowest}
use Rattle.jani_check.proofs.doubled.judge_automata.Given as goal

abbrev pub invariant-loop-a : goal.invariant-loop-a
invariant-loop-a l = (ns : List Named) → IsLowest l.global ns →
    soonest l.best (flat_map (doubled_in ns) (map automaton_of (drop l.a-index l.automata))) ≡ soonest l.fn.before (flat_map (doubled_in ns) (map automaton_of l.automata))
