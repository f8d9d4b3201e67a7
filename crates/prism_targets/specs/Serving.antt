-- What the edges of a file serve, and the targets that its elements block, by the numbers of the targets; and what `serving`
-- tells (this project's own rule).
use Rattle.std.specs.Prelude.{◌≡◌, ℕ, List, Bool, map}
use Rattle.jani_tree.specs.Syntax.{File}
use Rattle.prism_translation.specs.Elements.{Element, elements, Placed, placed_edges}
use Rattle.prism_translation.specs.Targets as spec
use Rattle.prism_translation.specs.Targets.{targets, serves, serves_silently, is_blocked}
use Rattle.prism_targets.specs.declared.targets.Target.{Target}
use Rattle.prism_targets.specs.declared.served.Serving.{Serving}
use Rattle.edge_tables.specs.Tables.{places_of, Served}
use Rattle.prism_targets.specs.Made.{stands_for}
use Rattle.prism_targets.specs.Code.{target_view, element_served}

-- the targets that an edge serves, and whether it serves the empty action
abbrev pub edge_in : File → Placed → List ℕ × Bool
edge_in file p = (places_of (λ t. serves file t p) (targets file), serves_silently file p)

abbrev pub served_in : File → Element → Served
served_in file el = record { edges = map (edge_in file) (placed_edges el); blocked = places_of (is_blocked file el) (targets file) }

-- the target of the file that the code's target is
abbrev pub target_in : File → Target → spec.Target
target_in file t = stands_for file (target_view t)

-- the targets of the file in order, and for each element, in order, what its edges serve, in order, and what it blocks
pub record IsServing (file : File) (s : Serving) : Type 0 where
  pub targets_are : map (target_in file) s.targets.items ≡ targets file
  pub elements_are : map element_served s.elements.items ≡ map (served_in file) (elements file)
