-- The actions that a JANI file's choices get in PRISM, which earns rewards by actions alone (this project's own rule; PRISM
-- manual, "The PRISM Language": "Synchronisation", "Costs and Rewards"; jani-model specification, version 1:
-- "Composition", "Edges"). A vector's choices are split by what they earn: one action for each edge that assigns rewards,
-- and one plain action for those that earn nothing.
use Rattle.std.specs.Prelude.{ℕ, List, [], ◌∷◌, ◌++◌, map, Bool, false, not, ◌&&◌, ◌||◌, Option, Some, None, is_none, is_some, nat_eq, slice_get}
use Rattle.std.specs.List.{find, filter, flat_map, list_any}
use Rattle.std.specs.Option.{option_map}
use Rattle.bridge_io.specs.declared.reason.Named.{Named}
use Rattle.process_core.specs.Ready.{Name, same_label}
use Rattle.process_core.specs.Instance.{only_if}
use Rattle.jani_tree.specs.Syntax.{Vector, File}
use Rattle.prism_translation.specs.Elements.{Element, elements, Placed, placed_edges, same_place, action_of, rewards}

-- ---- vectors
-- the action that the vector names for an element, if it takes part
abbrev pub name_in : Option (Option Named) → Option Name
name_in None = None
name_in (Some p) = option_map (λ n. n.name) p

abbrev pub part_of : Vector → ℕ → Option Name
part_of v k = name_in (slice_get v.parts k)

-- it is this action
abbrev pub is_named : Option Name → Option Name → Bool
is_named None a = false
is_named (Some x) a = same_label (Some x) a

-- the vector names the edge's action at its element
abbrev pub names : Vector → Placed → Bool
names v p = is_named (part_of v p.element.number) (action_of p.edge)

abbrev pub edges_named : Vector → Element → List Placed
edges_named v el = filter (names v) (placed_edges el)

-- the element that has an edge with the action named there, and with an assignment to a numeric transient variable; a file
-- without fault has at most one
abbrev pub reward_writer : File → Vector → Option Element
reward_writer file v = find (λ el. list_any (rewards file) (edges_named v el)) (elements file)

-- ---- targets
-- what an action is made for: a vector, if it is made for one, with the number of its reward writer, if there is one; and
-- the edge that it earns the rewards of; a plain one earns nothing
pub record Target : Type 0 where
  pub vector : Option Vector
  pub writer : Option ℕ
  pub maker : Option Placed

-- those of a vector: one for each edge of its reward writer that has the named action and assigns rewards, and then the plain
-- one, which is left out where all its edges with that action do
abbrev pub targets_by : File → Vector → Option Element → List Target
targets_by file v None = record { vector = Some v; writer = None; maker = None } ∷ []
targets_by file v (Some el) =
    map (λ p. record { vector = Some v; writer = Some el.number; maker = Some p }) (filter (rewards file) (edges_named v el))
    ++ only_if (list_any (λ p. not (rewards file p)) (edges_named v el)) (record { vector = Some v; writer = Some el.number; maker = None })

abbrev pub vector_targets : File → Vector → List Target
vector_targets file v = targets_by file v (reward_writer file v)

abbrev pub is_silent : Placed → Bool
is_silent p = is_none p.edge.action

-- those of silent edges: one for each that assigns rewards
abbrev pub silent_targets : File → List Target
silent_targets file =
    flat_map (λ el. map (λ p. record { vector = None; writer = None; maker = Some p }) (filter (λ p. is_silent p && rewards file p) (placed_edges el)))
    (elements file)

abbrev pub targets : File → List Target
targets file = flat_map (vector_targets file) file.vectors ++ silent_targets file

-- the old name of a target: its vector's result
abbrev pub result_of : Vector → Option Name
result_of v = option_map (λ r. r.name) v.result

abbrev pub old_name_by : Option Vector → Option Name
old_name_by None = None
old_name_by (Some v) = result_of v

abbrev pub old_name : Target → Option Name
old_name t = old_name_by t.vector

-- ---- which edge serves which target
abbrev pub is_made_for : Placed → Option Placed → Bool
is_made_for p None = false
is_made_for p (Some q) = same_place p q

-- the vector of the target names the edge's action at its element
abbrev pub is_called_by : Option Vector → Placed → Bool
is_called_by None p = false
is_called_by (Some v) p = names v p

abbrev pub is_another : ℕ → Option ℕ → Bool
is_another k None = false
is_another k (Some w) = not (nat_eq k w)

-- An edge serves the target that is made for it; if it assigns no rewards, the plain target of each vector that names its
-- action at its element; and each target of a vector that does so and has another element for its reward writer.
abbrev pub serves : File → Target → Placed → Bool
serves file t p =
    is_made_for p t.maker
    || (is_called_by t.vector p && (is_none t.maker && not (rewards file p) || is_another p.element.number t.writer))

-- a silent edge that assigns no rewards serves no target, but the empty action
abbrev pub serves_silently : File → Placed → Bool
serves_silently file p = is_silent p && not (rewards file p)

-- ---- which element takes part in which target
abbrev pub has_part : ℕ → Option Vector → Bool
has_part k None = false
has_part k (Some v) = is_some (part_of v k)

-- it takes part in a vector's target, and no edge of it serves the target
abbrev pub is_blocked : File → Element → Target → Bool
is_blocked file el t = has_part el.number t.vector && not (list_any (serves file t) (placed_edges el))
