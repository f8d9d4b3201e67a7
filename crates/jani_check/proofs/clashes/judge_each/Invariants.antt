use Rattle.std.specs.Prelude.{◌≡◌, [], drop, map, take}
use Rattle.std.specs.List.{flat_map}
use Rattle.name_rules.specs.Least.{soonest}
use Rattle.jani_tree.specs.Syntax.{vector_of}
use Rattle.jani_check.specs.NameLists.{names_under}
use Rattle.jani_check.specs.Participants.{clash_by, parts_taken}
use Rattle.jani_check.specs.TypeFaults.{meet}
use Rattle.jani_check.proofs.clashes.judge_each.Given as goal

abbrev pub invariant-loop-i : goal.invariant-loop-i
invariant-loop-i l =
    (l.known.items ≡ map (λ w. meet (parts_taken [] (map names_under l.elements) w.parts)) (take l.i l.vectors))
    × (soonest l.best (flat_map (clash_by (map names_under l.elements)) (map vector_of (drop l.i l.vectors)))
    ≡ soonest l.fn.before (flat_map (clash_by (map names_under l.elements)) (map vector_of l.vectors)))
