use Rattle.prism_lex.proofs.Longest.{Scanned}
use Rattle.prism_lex.proofs.automaton.scan.Given as goal

abbrev pub invariant-loop-i : goal.invariant-loop-i
invariant-loop-i l = Scanned l.bytes l.i l.state l.len l.last
