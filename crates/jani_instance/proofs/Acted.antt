-- Edges with an action, by the number of that: of some edges, those of each.
use Rattle.std.specs.Prelude.{◌≡◌, ℕ, List, [], ◌∷◌, ◌++◌, map, Bool, true, false, Option, Some, None, nat_eq, if◌then◌else◌}
use Rattle.std.specs.List.{filter, flat_map}
use Rattle.std.proofs.Common.{refl, ap}
use Rattle.bridge_io.specs.declared.reason.Named.{Named}
use Rattle.process_core.specs.Ready.{Name}
use Rattle.instance_start.specs.Numbered.{of_number}
use Rattle.jani_tree.specs.Syntax as syntax
use Rattle.jani_instance.specs.Actions.{acted_by, acted_with, acts_as, is_number}
use Rattle.jani_instance.specs.Shapes.{edge_by}
use Rattle.jani_instance.specs.declared.build.Site.{Site}

-- of the edges of a location, those with the action of a number
pub acted_are : (number : Name → ℕ) (s : Site) (k : ℕ) (es : List syntax.Edge) → of_number k (flat_map (acted_by number s) es) ≡ map (edge_by s) (filter (acts_as number k) es)
acted_are number s k [] = refl
acted_are number s k (e ∷ es) = by_action e.action (acted_are number s k es)
  where
    by_test : (x : Named) (b : Bool) → of_number k (flat_map (acted_by number s) es) ≡ map (edge_by s) (filter (acts_as number k) es) →
        map (λ z. z.value)
        (if b then record { number = number x.name; value = edge_by s e } ∷ filter (λ z. nat_eq k z.number) (flat_map (acted_by number s) es)
        else filter (λ z. nat_eq k z.number) (flat_map (acted_by number s) es))
        ≡ map (edge_by s) (if b then e ∷ filter (acts_as number k) es else filter (acts_as number k) es)
    by_test x true ih = ap (λ l. edge_by s e ∷ l) ih
    by_test x false ih = ih

    by_action : (o : Option Named) → of_number k (flat_map (acted_by number s) es) ≡ map (edge_by s) (filter (acts_as number k) es) →
        of_number k (acted_with number s o e ++ flat_map (acted_by number s) es) ≡ map (edge_by s) (if is_number number k o then e ∷ filter (acts_as number k) es else filter (acts_as number k) es)
    by_action None ih = ih
    by_action (Some x) ih = by_test x (nat_eq k (number x.name)) ih
