use Rattle.std.proofs.Common.{◌≡◌, List, ℕ, length, map, take}
use Rattle.jani_instance.specs.Parts.{automaton_at}
use Rattle.jani_instance.specs.Shapes.{giver_at}
use Rattle.jani_instance.specs.Transients.{gifts_at, own_list}
use Rattle.jani_instance.proofs.transients.gifts_of_each.Given as goal

abbrev pub invariant-loop-i : goal.invariant-loop-i
invariant-loop-i l = (length l.all.items ≡ l.i) × ((k : ℕ) (x : List ℕ) → map giver_at (own_list l.all.items k x) ≡ gifts_at k x (map automaton_at (take l.i l.parts)))
