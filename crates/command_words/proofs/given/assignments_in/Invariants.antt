use Rattle.name_rules.specs.Names.{has_name}
use Rattle.command_words.specs.Given.{assignments_of}
use Rattle.command_words.specs.Words.{texts}
use Rattle.command_words.proofs.Assignments.{AreSoFar}
use Rattle.command_words.proofs.given.assignments_in.Given as goal

abbrev pub invariant-loop-i : goal.invariant-loop-i
invariant-loop-i l = AreSoFar (texts l.words) l.i (assignments_of l.given) (has_name l.names)
