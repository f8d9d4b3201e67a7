use Rattle.std.specs.Prelude.{◌≡◌, ℕ, List, map, drop}
use Rattle.std.specs.List.{position_from}
use Rattle.std.specs.Option.{option_or}
use Rattle.name_rules.specs.Names.{under}
use Rattle.prism_tree.specs.Syntax.{rewards_of}
use Rattle.prop_trees.specs.PrismFaults.{is_titled}
use Rattle.prop_check.proofs.structures.places.Given as goal

abbrev pub invariant-loop-place : goal.invariant-loop-place
invariant-loop-place l =
    (x : List ℕ) → option_or (under l.places x) (position_from (is_titled x) l.place (map rewards_of (drop l.place l.all)))
    ≡ position_from (is_titled x) 0 (map rewards_of l.all)
