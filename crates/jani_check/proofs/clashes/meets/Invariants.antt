use Rattle.std.specs.Prelude.{◌≡◌, [], map, drop}
use Rattle.jani_check.specs.NameLists.{names_under}
use Rattle.jani_check.specs.Participants.{meets_with, parts_taken}
use Rattle.name_rules.specs.Names.{has_name}
use Rattle.jani_check.specs.TypeFaults.{meet}
use Rattle.jani_check.proofs.clashes.meets.Given as goal

abbrev pub invariant-loop-i : goal.invariant-loop-i
invariant-loop-i l =
    meets_with (has_name l.seen) (parts_taken [] (map names_under (drop l.i l.elements)) (drop l.i l.parts)) ≡ meet (parts_taken [] (map names_under l.elements) l.parts)
