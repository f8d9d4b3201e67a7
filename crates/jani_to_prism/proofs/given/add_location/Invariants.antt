use Rattle.std.proofs.Common.{◌≡◌, ◌++◌, ℕ, List, map, take}
use Rattle.std.specs.List.{flat_map}
use Rattle.process_core.specs.Instance.{only_if}
use Rattle.jani_tree.specs.Syntax.{write_of}
use Rattle.op_trees.specs.Names.{is_called}
use Rattle.gathering.specs.Lists.{list_under}
use Rattle.prism_modules.specs.Code.{element_of}
use Rattle.jani_to_prism.specs.Given.{given_of, given_with}
use Rattle.jani_to_prism.proofs.given.add_location.Given as goal

abbrev pub invariant-loop-w : goal.invariant-loop-w
invariant-loop-w l =
    (x : List ℕ) → map given_of (list_under l.all x)
    ≡ map given_of (list_under l.initial.all x)
    ++ flat_map (λ w. only_if (is_called x w.target) (given_with (element_of l.el) l.number w)) (map write_of (take l.w-index l.w-items))
