-- What states and choices earn in each reward structure, of the items that are for them.
use Rattle.std.proofs.Common.{◌≡◌, List, [], ◌∷◌, map, Bool, refl, sym, ap, ap₂, ◌∙◌}
use Rattle.basics.specs.Members.{filter-map}
use Rattle.op_trees.specs.Seen.{Seen}
use Rattle.process_core.specs.Ready.{Name}
use Rattle.process_core.specs.Product.{map-map}
use Rattle.process_core.specs.Bounds.{summed}
use Rattle.prism_tree.specs.Syntax.{Rewards}
use Rattle.prism_check.specs.Moment.{Adds, item_at}
use Rattle.prism_check.specs.Process.{sum_for}
use Rattle.prism_instance.specs.Shapes.{items_for, sum_under}

module _ (names : Name → Seen) where
  sum_is : (wanted : Adds → Bool) (r : Rewards) → sum_under names (items_for wanted r) ≡ sum_for wanted (map (item_at names) r.items)
  sum_is wanted r =
      ap summed
      (sym (map-map (λ e. e.item) (item_at names) (items_for wanted r))
      ∙ ap (map (λ e. e.item)) (sym (filter-map (λ e. wanted e.adds) (item_at names) r.items)))

  pub sums_are : (wanted : Adds → Bool) (rs : List Rewards) →
      map (sum_under names) (map (items_for wanted) rs) ≡ map (sum_for wanted) (map (λ r. map (item_at names) r.items) rs)
  sums_are wanted [] = refl
  sums_are wanted (r ∷ rs) = ap₂ (λ x l. x ∷ l) (sum_is wanted r) (sums_are wanted rs)
