-- Files that are too large once their formulas and their copies of modules are written out. (The limits are this
-- project's own.)
use Rattle.std.specs.Prelude.{◌≡◌, ℕ, ◌+◌, ◌*◌, max, List, map, length, Bool, ◌||◌, nat_lt, bytes_eq}
use Rattle.std.specs.List.{flat_map, fold, sum, sum_by, list_any}
use Rattle.std.specs.Option.{option_map}
use Rattle.bridge_io.specs.declared.reason.Reason.TheVariants.{TooLarge}
use Rattle.bridge_io.specs.declared.reason.Fault.{Fault}
use Rattle.op_trees.specs.Tree.{node_count, height_of}
use Rattle.basics.specs.Options.{if_some}
use Rattle.process_core.specs.Ready.{Name, firsts}
use Rattle.prism_tree.specs.Syntax.{File}
use Rattle.prism_names.specs.Names.{Part, parts}
use Rattle.prism_names.specs.Flat.{flat}
use Rattle.prism_names.specs.Order.{whole_nodes, whole_height}
use Rattle.name_rules.specs.Least.{fault_if}
use Rattle.prism_check.specs.Demands.{expression_of, all_demands}

-- the nodes of all expressions
abbrev pub nodes : File → ℕ
nodes file = sum (map (λ d. node_count (expression_of d)) (all_demands file))

-- the height of the highest one
abbrev pub height : File → ℕ
height file = fold max 0 (map (λ d. height_of (expression_of d)) (all_demands file))

abbrev pub command_count : File → ℕ
command_count file = sum_by (λ p. length p.commands) (parts file)

-- the actions of a module's commands
abbrev pub part_actions : Part → List Name
part_actions p = flat_map (λ c. if_some (option_map (λ a. p.rename a.name) c.action)) p.commands

-- how many different actions the commands have
abbrev pub action_count : File → ℕ
action_count file = length (firsts bytes_eq (flat_map part_actions (parts file)))

-- a reward structure has too many items
abbrev pub has_long_rewards : File → Bool
has_long_rewards file = list_any (λ r. nat_lt 1024 (length r.items)) file.rewards

-- the synchronisation vectors, one for each module and for each action, with one place more than there are modules, have
-- too many places
abbrev pub has_many_vectors : File → Bool
has_many_vectors file = nat_lt 4000000 ((length file.modules + 1) * (length file.modules + action_count file))

-- so high at most is an expression that is written out
abbrev pub height_limit : ℕ
height_limit = 2048

-- a file without formulas and copies passes a limit
abbrev pub passes_limit : File → Bool
passes_limit file =
    nat_lt 2000000 (nodes file)
    || (nat_lt height_limit (height file)
    || (nat_lt 200000 (command_count file)
    || (has_long_rewards file || has_many_vectors file)))

abbrev pub size_faults : File → List Fault
size_faults file = fault_if (passes_limit (flat file)) 0 TooLarge

-- ---- the same counted on the file as it stands, with each formula's name counted as its body
abbrev pub counted_nodes : File → ℕ
counted_nodes file = sum (map (λ d. whole_nodes file (expression_of d)) (all_demands file))

abbrev pub counted_height : File → ℕ
counted_height file = fold max 0 (map (λ d. whole_height file (expression_of d)) (all_demands file))

abbrev pub NodesCounted : Type 0
NodesCounted = (file : File) → nodes (flat file) ≡ counted_nodes file

abbrev pub HeightCounted : Type 0
HeightCounted = (file : File) → height (flat file) ≡ counted_height file

-- so whether a limit is passed is counted on the file as it stands
abbrev pub LimitsCounted : Type 0
LimitsCounted =
    (file : File) → passes_limit (flat file)
    ≡ (nat_lt 2000000 (counted_nodes file)
    || (nat_lt height_limit (counted_height file)
    || (nat_lt 200000 (command_count file)
    || (has_long_rewards file || has_many_vectors file))))
