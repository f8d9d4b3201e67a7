use Rattle.std.proofs.Common.{◌≡◌, ◌++◌, List, ℕ, map, drop}
use Rattle.gathering.specs.Lists.{list_under}
use Rattle.process_core.specs.Instance.{numbered}
use Rattle.jani_instance.specs.Parts.{automaton_at}
use Rattle.jani_instance.specs.Shapes.{giver_at}
use Rattle.jani_instance.specs.Transients.{gifts_by}
use Rattle.jani_instance.proofs.transients.gifts_of_all.Given as goal

abbrev pub invariant-loop-i : goal.invariant-loop-i
invariant-loop-i l = (x : List ℕ) →
    map giver_at (list_under l.all x) ++ numbered (gifts_by x) l.i (map automaton_at (drop l.i l.parts)) ≡ numbered (gifts_by x) 0 (map automaton_at l.parts)
