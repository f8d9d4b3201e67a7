use Rattle.std.proofs.Common.{◌≡◌, ◌++◌, List, ℕ, map, take, None, Some}
use Rattle.std.specs.List.{flat_map}
use Rattle.gathering.specs.Lists.{list_under}
use Rattle.prism_tree.specs.Syntax.{item_of}
use Rattle.prism_instance.specs.Shapes.{earned_from}
use Rattle.prism_instance.specs.Sites.{earned_of}
use Rattle.prism_instance.proofs.earnings.add_structure.Given as goal

abbrev pub invariant-loop-item : goal.invariant-loop-item
invariant-loop-item l = record {
  silent : map earned_of l.all.silent.items ≡ map earned_of l.initial.all.silent.items ++ flat_map (earned_from None l.k) (map item_of (take l.item-index l.items));
  named : (x : List ℕ) → map earned_of (list_under l.all.named x) ≡ map earned_of (list_under l.initial.all.named x) ++ flat_map (earned_from (Some x) l.k) (map item_of (take l.item-index l.items));
}
