-- The expressions of a PRISM file with what each has to be, and what its commands write (PRISM manual, "The PRISM
-- Language": "Constants", "Modules and Variables", "Commands", "Formulas and Labels", "Costs and Rewards", "Multiple Initial
-- States").
use Rattle.std.specs.Prelude.{List, [], ◌∷◌, ◌++◌, map, Bool, Option, Some, None, is_some}
use Rattle.std.specs.List.{flat_map}
use Rattle.op_trees.specs.declared.tree.Ty.{Ty}
use Rattle.op_trees.specs.declared.tree.Ty.TheVariants as T
use Rattle.basics.specs.Options.{if_some}
use Rattle.prism_tree.specs.Syntax.{Expression, Const, Range, Var, Formula, Label, Write, Branch, Command, Item, Rewards, File}
use Rattle.prism_names.specs.Names.{Part, parts}
use Rattle.op_trees.specs.declared.wanted.Wanted.{Wanted}
use Rattle.op_trees.specs.declared.wanted.Wanted.TheVariants as W
use Rattle.op_trees.specs.Wanted.{wanted_by}

-- an expression in which no variable may occur, one in which variables may, or a write of a command that has an action
-- or has none
pub data Demand : Type 0 where
  fixed : Wanted → Expression → Demand
  varying : Wanted → Expression → Demand
  written : Bool → Write → Demand

abbrev pub expression_of : Demand → Expression
expression_of (fixed w e) = e
expression_of (varying w e) = e
expression_of (written acts w) = w.value

-- ---- constants and formulas
abbrev pub const_demands : Const → List Demand
const_demands c = map (fixed (wanted_by c.ty)) (if_some c.value)

abbrev pub formula_demands : Formula → List Demand
formula_demands f = varying W.Anything f.body ∷ []

-- ---- variables: both bounds are ints, and the first value is an int or a bool, as the variable is
abbrev pub range_demands : Option Range → List Demand
range_demands None = []
range_demands (Some r) = fixed W.Int r.low ∷ fixed W.Int r.high ∷ []

abbrev pub type_by : Option Range → Ty
type_by None = T.Bool
type_by (Some r) = T.Int

abbrev pub var_type : Var → Ty
var_type x = type_by x.range

abbrev pub var_demands : Var → List Demand
var_demands x = range_demands x.range ++ map (fixed (wanted_by (var_type x))) (if_some x.start)

-- ---- commands: a guard is a bool, a probability a number
abbrev pub branch_demands : Bool → Branch → List Demand
branch_demands acts b = map (varying W.Number) (if_some b.weight) ++ map (written acts) b.writes

abbrev pub command_demands : Command → List Demand
command_demands c = varying W.Bool c.guard ∷ flat_map (branch_demands (is_some c.action)) c.branches

abbrev pub part_demands : Part → List Demand
part_demands p = flat_map var_demands p.vars ++ flat_map command_demands p.commands

-- ---- labels and rewards
abbrev pub label_demands : Label → List Demand
label_demands l = varying W.Bool l.body ∷ []

abbrev pub item_demands : Item → List Demand
item_demands i = varying W.Bool i.guard ∷ varying W.Number i.value ∷ []

abbrev pub rewards_demands : Rewards → List Demand
rewards_demands r = flat_map item_demands r.items

-- ---- an initial condition is a bool, in which variables may occur
abbrev pub init_demands : Option Expression → List Demand
init_demands e = map (varying W.Bool) (if_some e)

-- ---- a file: what stands in no module, and the rest; the bodies of formulas are apart
abbrev pub outer_demands : File → List Demand
outer_demands file =
    flat_map const_demands file.constants ++ (flat_map var_demands file.globals
    ++ (flat_map label_demands file.labels ++ (flat_map rewards_demands file.rewards ++ init_demands file.init)))

abbrev pub all_demands : File → List Demand
all_demands file = outer_demands file ++ flat_map part_demands (parts file)
