-- What is known of the edges of an element by their actions, and how the choices of a vector are split into targets (this
-- project's own rule). Which edges assign rewards is told by a test.
use Rattle.std.specs.Prelude.{ℕ, ◌+◌, ◌-◌, List, [], ◌∷◌, ◌++◌, map, length, Bool, true, false, not, ◌&&◌, ◌||◌, Option, Some, None, is_some, is_none, slice_get, if◌then◌else◌}
use Rattle.std.specs.List.{filter, flat_map, list_any, range_with_len}
use Rattle.bridge_io.specs.declared.reason.Named.{Named}
use Rattle.op_trees.specs.Tree.{capped}
use Rattle.process_core.specs.Ready.{Name, same_label}
use Rattle.name_rules.specs.Names.{is_among}
use Rattle.jani_tree.specs.Syntax.{Automaton, Edge, Vector, File}
use Rattle.jani_meaning.specs.Loops.{loops}
use Rattle.process_core.specs.Instance.{numbered, only_if}
use Rattle.prism_translation.specs.Elements.{Element, edges_of, action_of, some_write, is_reward, rewards}
use Rattle.prism_translation.specs.Targets.{name_in, part_of, is_named, edges_named, reward_writer, is_another}

-- the places of the members that pass a test
abbrev pub places_of : {X : Type 0} → (X → Bool) → List X → List ℕ
places_of q xs = numbered (λ i x. only_if (q x) i) 0 xs

abbrev pub has_some : {X : Type 0} → List X → Bool
has_some [] = false
has_some (x ∷ xs) = true

-- ---- the edges of an element
-- an edge, whether it assigns rewards, and how many edges before it have its action and do so
pub record Ranked : Type 0 where
  pub edge : Edge
  pub rewarding : Bool
  pub rank : ℕ

-- all edges; of each action, and of none, the numbers of the edges that assign rewards; and the actions of those that assign
-- none
pub record EdgeTable : Type 0 where
  pub edges : List Ranked
  pub rewarding : Option Name → List ℕ
  pub plain : Name → Bool

abbrev pub has_action : Option Name → Edge → Bool
has_action a e = same_label a (action_of e)

module _ (q : Edge → Bool) where
  abbrev pub rewarding_numbers : Option Name → List Edge → List ℕ
  rewarding_numbers a es = places_of (λ e. has_action a e && q e) es

  abbrev pub is_plain : List Edge → Name → Bool
  is_plain es x = list_any (λ e. has_action (Some x) e && not (q e)) es

  abbrev pub ranked : List Edge → Edge → Ranked
  ranked before e = record { edge = e; rewarding = q e; rank = length (rewarding_numbers (action_of e) before) }

  -- edges that stand behind others
  abbrev pub ranked_from : List Edge → List Edge → List Ranked
  ranked_from before [] = []
  ranked_from before (e ∷ es) = ranked before e ∷ ranked_from (before ++ e ∷ []) es

  abbrev pub table_of : List Edge → EdgeTable
  table_of es = record { edges = ranked_from [] es; rewarding = λ a. rewarding_numbers a es; plain = is_plain es }

abbrev pub table_in : File → Element → EdgeTable
table_in file el = table_of (some_write (is_reward file el.number)) (edges_of el)

-- one edge more
abbrev pub with_edge : EdgeTable → Edge → Bool → EdgeTable
with_edge a e b = record {
  edges = a.edges ++ record { edge = e; rewarding = b; rank = length (a.rewarding (action_of e)) } ∷ [];
  rewarding = λ x. a.rewarding x ++ only_if (has_action x e && b) (length a.edges);
  plain = λ x. a.plain x || (has_action (Some x) e && not b);
}

-- ---- loops
-- there is a loop with this action: one is for each action that is accepted everywhere and each location
abbrev pub is_looped : List Named → Automaton → Name → Bool
is_looped actions a x = is_among actions x && has_some a.locations

-- a loop assigns nothing, and stands behind all other edges
abbrev pub ranked_loop : (Option Name → List ℕ) → Edge → Ranked
ranked_loop rewarding e = record { edge = e; rewarding = false; rank = length (rewarding (action_of e)) }

-- the loops besides, for actions that are accepted everywhere
abbrev pub and_loops : EdgeTable → List Named → Automaton → EdgeTable
and_loops t actions a = record {
  edges = t.edges ++ map (ranked_loop t.rewarding) (loops actions a);
  rewarding = t.rewarding;
  plain = λ x. t.plain x || is_looped actions a x;
}

-- those of the action that a vector names for the element, if it does
abbrev pub makers_at : EdgeTable → Option Name → List ℕ
makers_at a None = []
makers_at a (Some x) = a.rewarding (Some x)

abbrev pub plain_at : EdgeTable → Option Name → Bool
plain_at a None = false
plain_at a (Some x) = a.plain x

-- ---- vectors
-- a vector with its reward writer, the numbers of the edges that its targets are made for, and whether it has a plain target
pub record Split : Type 0 where
  pub vector : Vector
  pub writer : Option ℕ
  pub makers : List ℕ
  pub plain : Bool

abbrev pub split_by : File → Vector → Option Element → Split
split_by file v None = record { vector = v; writer = None; makers = []; plain = true }
split_by file v (Some el) = record {
  vector = v;
  writer = Some el.number;
  makers = map (λ p. p.number) (filter (rewards file) (edges_named v el));
  plain = list_any (λ p. not (rewards file p)) (edges_named v el);
}

abbrev pub split_in : File → Vector → Split
split_in file v = split_by file v (reward_writer file v)

-- the same by what is known of the elements from a number on
abbrev pub split_from : Vector → ℕ → List EdgeTable → Split
split_from v k [] = record { vector = v; writer = None; makers = []; plain = true }
split_from v k (a ∷ more) =
    if has_some (makers_at a (part_of v k)) then record { vector = v; writer = Some k; makers = makers_at a (part_of v k); plain = plain_at a (part_of v k) }
    else split_from v (k + 1) more

-- the element of this number takes part in the vector with these parts
abbrev pub takes_part : ℕ → List (Option Named) → Bool
takes_part k parts = is_some (name_in (slice_get parts k))

abbrev pub is_participant : ℕ → Split → Bool
is_participant k s = takes_part k s.vector.parts

-- how many targets a vector has
abbrev pub split_count : Split → ℕ
split_count s = length s.makers + (if s.plain then 1 else 0)

-- ---- targets with their numbers
-- a vector with the number of its first target, that of its plain one, behind those that are made for edges, and where they end
pub record Row : Type 0 where
  pub split : Split
  pub first : ℕ
  pub behind : ℕ
  pub end : ℕ

abbrev pub row_at : ℕ → Split → Row
row_at i s = record { split = s; first = i; behind = i + length s.makers; end = i + split_count s }

abbrev pub rows_from : ℕ → List Split → List Row
rows_from i [] = []
rows_from i (s ∷ ss) = row_at i s ∷ rows_from (i + split_count s) ss

abbrev pub all_numbers : Row → List ℕ
all_numbers r = range_with_len r.first (r.end - r.first)

-- Those that an edge of the element of this number serves of a vector that names its action there: all, if another element is
-- the reward writer, else the one that is made for it, or the plain one. Numbers of those that are made for edges are capped,
-- which changes none that there is.
abbrev pub numbers_by : (ℕ → ℕ) → ℕ → Ranked → Row → List ℕ
numbers_by cap k a r =
    if is_another k r.split.writer then all_numbers r
    else (if a.rewarding then cap (r.first + a.rank) else r.behind) ∷ []

abbrev pub numbers_served : ℕ → Ranked → Row → List ℕ
numbers_served = numbers_by capped

-- a vector names this action for the element of this number
abbrev pub calls : ℕ → Name → Row → Bool
calls k x r = is_named (part_of r.split.vector k) (Some x)

-- what an edge of the element of this number serves, whose silent edges have targets from a number on
abbrev pub served_under : (ℕ → ℕ) → List Row → ℕ → ℕ → Ranked → Option Name → List ℕ
served_under cap rows k first a None = only_if a.rewarding (cap (first + a.rank))
served_under cap rows k first a (Some x) = flat_map (numbers_by cap k a) (filter (calls k x) rows)

abbrev pub served_by : List Row → ℕ → ℕ → Ranked → Option Name → List ℕ
served_by = served_under capped

abbrev pub edge_serves : List Row → ℕ → ℕ → Ranked → List ℕ × Bool
edge_serves rows k first a = (served_by rows k first a (action_of a.edge), is_none (action_of a.edge) && not a.rewarding)

-- the element has an edge with this action
abbrev pub has_edge : EdgeTable → Option Name → Bool
has_edge a None = false
has_edge a (Some x) = has_some (a.rewarding (Some x)) || a.plain x

-- a vector names an action for the element, and no edge of it has this
abbrev pub blocks : ℕ → EdgeTable → Row → Bool
blocks k a r = is_some (part_of r.split.vector k) && not (has_edge a (part_of r.split.vector k))

-- what the edges of an element serve, and the targets that it blocks
pub record Served : Type 0 where
  pub edges : List (List ℕ × Bool)
  pub blocked : List ℕ

abbrev pub element_serves : List Row → ℕ → ℕ → EdgeTable → Served
element_serves rows k first a = record { edges = map (edge_serves rows k first) a.edges; blocked = flat_map all_numbers (filter (blocks k a) rows) }

-- elements from a number on
abbrev pub served_from : List Row → ℕ → ℕ → List EdgeTable → List Served
served_from rows k first [] = []
served_from rows k first (a ∷ more) = element_serves rows k first a ∷ served_from rows (k + 1) (first + length (a.rewarding None)) more
