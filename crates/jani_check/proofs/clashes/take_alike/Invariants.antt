use Rattle.std.specs.Prelude.{◌≡◌, [], map, drop}
use Rattle.jani_check.specs.NameLists.{names_under}
use Rattle.jani_check.specs.Participants.{parts_taken}
use Rattle.jani_check.proofs.clashes.take_alike.Given as goal

abbrev pub invariant-loop-i : goal.invariant-loop-i
invariant-loop-i l =
    parts_taken [] (map names_under (drop l.i l.elements)) (drop l.i l.a) ≡ parts_taken [] (map names_under (drop l.i l.elements)) (drop l.i l.b) →
    parts_taken [] (map names_under l.elements) l.a ≡ parts_taken [] (map names_under l.elements) l.b
