use Rattle.std.proofs.Common.{◌≡◌, ◌++◌, map, drop}
use Rattle.command_words.specs.Given.{assignment_of}
use Rattle.model_process.specs.Constants.{good_front}
use Rattle.model_process.proofs.starting.good_front.Given as goal

abbrev pub invariant-loop-one : goal.invariant-loop-one
invariant-loop-one l = good_front (map assignment_of l.given) ≡ l.front ++ good_front (map assignment_of (drop l.one-index l.given))
