use Rattle.std.proofs.Common.{◌≡◌, List, ℕ, map, drop}
use Rattle.std.specs.Option.{option_or as or_else}
use Rattle.prop_to_jani.specs.Code.{found, new_in}
use Rattle.prop_to_jani.proofs.tables.name_map.Given as goal

abbrev pub invariant-loop-i : goal.invariant-loop-i
invariant-loop-i l = (x : List ℕ) →
    or_else (new_in l.all x) (found (map (λ y. y.now) (drop l.i l.olds)) (drop l.i l.news) x) ≡ found (map (λ y. y.now) l.olds) l.news x
