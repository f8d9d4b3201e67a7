-- Targets that tell their makers by numbers, and what those stand for in a file (this project's own rule).
use Rattle.std.specs.Prelude.{ℕ, ◌+◌, List, [], ◌∷◌, ◌++◌, map, Option, Some, None, slice_get}
use Rattle.jani_tree.specs.Syntax.{Vector, File}
use Rattle.process_core.specs.Instance.{only_if}
use Rattle.prism_translation.specs.Elements.{Element, elements, Placed, placed_edges}
use Rattle.prism_translation.specs.Targets.{Target}
use Rattle.edge_tables.specs.Tables.{EdgeTable, Split}

-- an edge by the number of its element and its own number there
pub record Maker : Type 0 where
  pub element : ℕ
  pub edge : ℕ

pub record Made : Type 0 where
  pub vector : Option Vector
  pub writer : Option ℕ
  pub maker : Option Maker

-- ---- those of a vector
abbrev pub maker_by : Option ℕ → ℕ → Option Maker
maker_by None n = None
maker_by (Some k) n = Some (record { element = k; edge = n })

abbrev pub made_by : Split → ℕ → Made
made_by s n = record { vector = Some s.vector; writer = s.writer; maker = maker_by s.writer n }

abbrev pub made_of : Split → List Made
made_of s = map (made_by s) s.makers

abbrev pub plain_of : Split → List Made
plain_of s = only_if s.plain (record { vector = Some s.vector; writer = s.writer; maker = None })

abbrev pub vector_made : Split → List Made
vector_made s = made_of s ++ plain_of s

-- ---- those of silent edges
abbrev pub made_alone : ℕ → List ℕ → List Made
made_alone k ns = map (λ n. record { vector = None; writer = None; maker = Some (record { element = k; edge = n }) }) ns

-- of elements from a number on
abbrev pub silent_from : ℕ → List EdgeTable → List Made
silent_from k [] = []
silent_from k (a ∷ more) = made_alone k (a.rewarding None) ++ silent_from (k + 1) more

-- ---- in a file
abbrev pub edge_at : Option Element → ℕ → Option Placed
edge_at None n = None
edge_at (Some el) n = slice_get (placed_edges el) n

abbrev pub placed_at : File → Option Maker → Option Placed
placed_at file None = None
placed_at file (Some m) = edge_at (slice_get (elements file) m.element) m.edge

abbrev pub stands_for : File → Made → Target
stands_for file m = record { vector = m.vector; writer = m.writer; maker = placed_at file m.maker }
