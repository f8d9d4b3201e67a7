use Rattle.std.specs.Prelude.{◌≡◌, false, map, drop}
use Rattle.jani_check.specs.Participants.{parts_taken}
use Rattle.jani_check.specs.ProfileFaults.{two_hold}
use Rattle.jani_check.specs.Rewarding.{holds_with, rewarded_in}
use Rattle.jani_check.proofs.writers.two_assign.Given as goal

abbrev pub invariant-loop-i : goal.invariant-loop-i
invariant-loop-i l =
    holds_with l.one (parts_taken false (map rewarded_in (drop l.i l.elements)) (drop l.i l.parts)) ≡ two_hold (parts_taken false (map rewarded_in l.elements) l.parts)
