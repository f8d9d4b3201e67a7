-- How large a file is, counted by tables of what its formulas and modules have.
use Rattle.std.specs.Prelude.{◌≡◌, ℕ, ◌+◌, max, List, [], ◌∷◌, ◌++◌, map, length, Option, is_some, unwrap_or, bytes_eq, if◌then◌else◌}
use Rattle.std.specs.List.{flat_map, list_any}
use Rattle.std.specs.Option.{option_map}
use Rattle.std.specs.Borrow.{Bor}
use Rattle.name_rules.specs.declared.map.NameMap.{NameMap}
use Rattle.std.specs.BTreeMap.{BTreeMap, get_by, btree_map_len}
use Rattle.std.specs.Cmp.Lexicographic.{slice_cmp}
use Rattle.std.specs.Ordering.{nat_cmp}
use Rattle.op_trees.specs.Tree.{capped}
use Rattle.basics.specs.Options.{if_some}
use Rattle.process_core.specs.Ready.{Name, firsts}
use Rattle.prism_tree.specs.declared.syntax.NamePair.{NamePair}
use Rattle.prism_tree.specs.Syntax.{Command, Module, plain, copied, File}
use Rattle.prism_names.specs.Names.{formula_body}
use Rattle.prism_names.specs.Flat.{flat}
use Rattle.prism_names.specs.Sizes.{nodes_by, height_by, name_nodes, name_height}
use Rattle.prism_check.specs.Demands.{Demand, expression_of, var_demands, command_demands}
use Rattle.prism_check.specs.SizeFaults.{passes_limit, command_count}
use Rattle.name_rules.specs.Names.{under}
use Rattle.prism_check.specs.Tables.{vars_in, commands_in, pair_for}
use Rattle.prism_check.specs.declared.tree_size.Size.{Size}
use Rattle.prism_check.specs.declared.sizes.Sizes.{Sizes}
use Rattle.prism_check.specs.declared.sizes.Sizes.TheVariants.{TooLarge, Within}

-- ---- names
-- a name that is not in the table stands for itself
abbrev pub leaf : Size
leaf = record { nodes = 1; height = 1 }

abbrev pub size_in : NameMap Size → Name → Size
size_in table x = unwrap_or (under table x) leaf

abbrev pub nodes_in : NameMap Size → Name → ℕ
nodes_in table x = (size_in table x).nodes

abbrev pub height_in : NameMap Size → Name → ℕ
height_in table x = (size_in table x).height

-- a formula's name has the nodes of its body, written out, and its height
pub record AreSizes (file : File) (sizes : Name → Size) : Type 0 where
  pub nodes : (x : Name) → (sizes x).nodes ≡ capped (name_nodes (formula_body file) (length file.formulas) x)
  pub height : (x : Name) → (sizes x).height ≡ capped (name_height (formula_body file) (length file.formulas) x)

-- ---- lists of expressions, where a name counts as so many nodes or is so high
abbrev pub nodes_of : (Name → ℕ) → List Demand → ℕ
nodes_of f [] = 0
nodes_of f (d ∷ ds) = nodes_by f (expression_of d) + nodes_of f ds

abbrev pub highest : (Name → ℕ) → List Demand → ℕ
highest f [] = 0
highest f (d ∷ ds) = max (height_by f (expression_of d)) (highest f ds)

-- ---- modules
abbrev pub nothing : Size
nothing = record { nodes = 0; height = 0 }

abbrev pub all_nodes : List Size → ℕ
all_nodes [] = 0
all_nodes (s ∷ ss) = s.nodes + all_nodes ss

abbrev pub tallest : List Size → ℕ
tallest [] = 0
tallest (s ∷ ss) = max s.height (tallest ss)

-- the expressions of a module that is no copy
abbrev pub own_demands : Module → List Demand
own_demands (plain m) = flat_map var_demands m.vars ++ flat_map command_demands m.commands
own_demands (copied m) = []

abbrev pub own_size : (Name → ℕ) → (Name → ℕ) → Module → Size
own_size f g m = record { nodes = capped (nodes_of f (own_demands m)); height = capped (highest g (own_demands m)) }

-- the size of a copy's expressions, by a table of what modules have
abbrev pub copied_size : (Name → Option Size) → Module → Size
copied_size sizes (plain m) = nothing
copied_size sizes (copied m) = unwrap_or (sizes m.from.name) nothing

-- the expressions of a copy
abbrev pub copied_demands : (Name → Option Module) → Module → List Demand
copied_demands called (plain m) = []
copied_demands called (copied m) =
    flat_map var_demands (vars_in (called m.from.name)) ++ flat_map command_demands (commands_in (called m.from.name))

-- ---- commands and their actions
abbrev pub commands_by : (Name → Option Module) → Module → List Command
commands_by called (plain m) = m.commands
commands_by called (copied m) = commands_in (called m.from.name)

abbrev pub pairs_of : Module → List NamePair
pairs_of (plain m) = []
pairs_of (copied m) = m.pairs

-- the action of a command, if it has one, with its name replaced
abbrev pub renamed_action : (Name → Option Name) → Command → List Name
renamed_action new c = if_some (option_map (λ a. unwrap_or (new a.name) a.name) c.action)

abbrev pub actions_by : (Name → Option Module) → Module → List Name
actions_by called m = flat_map (renamed_action (pair_for (pairs_of m))) (commands_by called m)

-- the keys of the map are these names, each once
pub record HasEach (set : BTreeMap (Bor (List ℕ)) (Unit {0})) (ns : List Name) : Type 0 where
  pub has : (x : Name) → is_some (get_by (λ k. slice_cmp nat_cmp x k.now) set) ≡ list_any (bytes_eq x) ns
  pub count : btree_map_len set ≡ length (firsts bytes_eq ns)

-- ---- a file
abbrev pub sizes_of : File → Sizes
sizes_of file = if passes_limit (flat file) then TooLarge else Within (command_count file)
