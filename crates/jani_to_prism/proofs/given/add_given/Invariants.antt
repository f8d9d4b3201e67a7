use Rattle.std.proofs.Common.{◌≡◌, ◌++◌, ℕ, List, map, drop}
use Rattle.std.specs.List.{filter}
use Rattle.process_core.specs.Instance.{numbered}
use Rattle.jani_tree.specs.Syntax.{location_of}
use Rattle.op_trees.specs.Names.{is_called}
use Rattle.gathering.specs.Lists.{list_under}
use Rattle.prism_modules.specs.Code.{element_of}
use Rattle.jani_to_prism.specs.Given.{given_of, given_with}
use Rattle.jani_to_prism.proofs.given.add_given.Given as goal

abbrev pub invariant-loop-i : goal.invariant-loop-i
invariant-loop-i l =
    (x : List ℕ) →
    map given_of (list_under l.all x)
    ++ numbered (λ i k. map (given_with (element_of l.el) i) (filter (λ w. is_called x w.target) k.values)) l.i (map location_of (drop l.i l.locations))
    ≡ map given_of (list_under l.initial.all x)
    ++ numbered (λ i k. map (given_with (element_of l.el) i) (filter (λ w. is_called x w.target) k.values)) 0 (map location_of l.locations)
