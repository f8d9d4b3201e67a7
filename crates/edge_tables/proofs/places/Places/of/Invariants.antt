use Rattle.std.proofs.Common.{◌≡◌, ℕ, List, map, take}
use Rattle.std.specs.List.{position}
use Rattle.jani_meaning.specs.Elements.{is_own, is_global}
use Rattle.name_rules.specs.Names.{under}
use Rattle.name_table.specs.JaniParts.{owned_of}
use Rattle.edge_tables.specs.Places.{own_in}
use Rattle.edge_tables.proofs.places.Places.of.Given as goal

abbrev pub invariant-loop-i : goal.invariant-loop-i
invariant-loop-i l = record {
  own : (k : ℕ) (x : List ℕ) → own_in l.all k x ≡ position (is_own k x) (map owned_of (take l.i l.vars));
  global : (x : List ℕ) → under l.all.global x ≡ position (is_global x) (map owned_of (take l.i l.vars));
}
