use Rattle.jani_tree.specs.Syntax.{file_of}
use Rattle.name_rules.specs.Names.{under}
use Rattle.jani_instance.proofs.Rounds.{IsRound}
use Rattle.jani_instance.proofs.constants.table_in_turns.Given as goal

abbrev pub invariant-loop-turn : goal.invariant-loop-turn
invariant-loop-turn l = IsRound (file_of l.file) (under l.given) l._turn l.table.items
