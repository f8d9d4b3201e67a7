-- The trees of PRISM files without the addresses of their boxes (PRISM manual, "The PRISM Language"), and the tree that
-- the code holds.
use Rattle.std.specs.Prelude.{ℕ, List, map, Option}
use Rattle.std.specs.Option.{option_map}
use Rattle.bridge_io.specs.declared.reason.Named.{Named}
use Rattle.op_trees.specs.declared.tree.Ty.{Ty}
use Rattle.op_trees.specs.Tree.{Tree, Truth, Number, Name, One, Two, Three, tree}
use Rattle.prism_tree.specs.declared.operator.PrismOp.{PrismOp}
use Rattle.prism_tree.specs.declared.syntax.PrismFile.{PrismFile}
use Rattle.prism_tree.specs.declared.syntax.PrismConst.{PrismConst}
use Rattle.prism_tree.specs.declared.syntax.PrismVar.{PrismVar}
use Rattle.prism_tree.specs.declared.syntax.PrismRange.{PrismRange}
use Rattle.prism_tree.specs.declared.syntax.PrismFormula.{PrismFormula}
use Rattle.prism_tree.specs.declared.syntax.PrismLabel.{PrismLabel}
use Rattle.prism_tree.specs.declared.syntax.PrismModule.{PrismModule}
use Rattle.prism_tree.specs.declared.syntax.PrismModule.TheVariants as M
use Rattle.prism_tree.specs.declared.syntax.PlainModule.{PlainModule}
use Rattle.prism_tree.specs.declared.syntax.CopiedModule.{CopiedModule}
use Rattle.prism_tree.specs.declared.syntax.PrismCommand.{PrismCommand}
use Rattle.prism_tree.specs.declared.syntax.PrismBranch.{PrismBranch}
use Rattle.prism_tree.specs.declared.syntax.PrismWrite.{PrismWrite}
use Rattle.prism_tree.specs.declared.syntax.PrismRewards.{PrismRewards}
use Rattle.prism_tree.specs.declared.syntax.PrismItem.{PrismItem}
use Rattle.prism_tree.specs.declared.syntax.ItemOn.{ItemOn}

abbrev pub Expression : Type 0
Expression = Tree PrismOp

-- the expression, but that its node begins at another offset
abbrev pub moved : ℕ → Expression → Expression
moved at (Truth from b) = Truth at b
moved at (Number from d) = Number at d
moved at (Name from x) = Name at x
moved at (One from o a) = One at o a
moved at (Two from o a b) = Two at o a b
moved at (Three from o a b c) = Three at o a b c

pub record Const : Type 0 where
  pub name : Named
  pub ty : Ty
  pub value : Option Expression

pub record Range : Type 0 where
  pub low : Expression
  pub high : Expression

-- a variable; without a range it is a bool
pub record Var : Type 0 where
  pub name : Named
  pub range : Option Range
  pub start : Option Expression

pub record Formula : Type 0 where
  pub name : Named
  pub body : Expression

pub record Label : Type 0 where
  pub name : Named
  pub body : Expression

pub record Write : Type 0 where
  pub name : Named
  pub value : Expression

pub record Branch : Type 0 where
  pub weight : Option Expression
  pub writes : List Write

pub record Command : Type 0 where
  pub action : Option Named
  pub guard : Expression
  pub branches : List Branch

pub record Body : Type 0 where
  pub name : Named
  pub vars : List Var
  pub commands : List Command

-- a module, or a copy of one, which holds no expression
pub data Module : Type 0 where
  plain : Body → Module
  copied : CopiedModule → Module

pub record Item : Type 0 where
  pub on : ItemOn
  pub guard : Expression
  pub value : Expression

pub record Rewards : Type 0 where
  pub name : Option Named
  pub items : List Item

-- a file; where it has an initial condition, the initial states are those in which that is true
pub record File : Type 0 where
  pub constants : List Const
  pub globals : List Var
  pub formulas : List Formula
  pub modules : List Module
  pub labels : List Label
  pub rewards : List Rewards
  pub init : Option Expression
  pub end : ℕ

-- ---- what the code holds

abbrev pub const_of : PrismConst → Const
const_of c = record { name = c.name; ty = c.ty; value = option_map tree c.value }

abbrev pub range_of : PrismRange → Range
range_of r = record { low = tree r.low; high = tree r.high }

abbrev pub var_of : PrismVar → Var
var_of v = record { name = v.name; range = option_map range_of v.range; start = option_map tree v.start }

abbrev pub formula_of : PrismFormula → Formula
formula_of f = record { name = f.name; body = tree f.body }

abbrev pub label_of : PrismLabel → Label
label_of l = record { name = l.name; body = tree l.body }

abbrev pub write_of : PrismWrite → Write
write_of w = record { name = w.name; value = tree w.value }

abbrev pub branch_of : PrismBranch → Branch
branch_of b = record { weight = option_map tree b.weight; writes = map write_of b.writes }

abbrev pub command_of : PrismCommand → Command
command_of c = record { action = c.action; guard = tree c.guard; branches = map branch_of c.branches }

abbrev pub body_of : PlainModule → Body
body_of m = record { name = m.name; vars = map var_of m.vars; commands = map command_of m.commands }

abbrev pub module_of : PrismModule → Module
module_of (M.Plain m) = plain (body_of m)
module_of (M.Copied m) = copied m

abbrev pub item_of : PrismItem → Item
item_of i = record { on = i.on; guard = tree i.guard; value = tree i.value }

abbrev pub rewards_of : PrismRewards → Rewards
rewards_of r = record { name = r.name; items = map item_of r.items }

abbrev pub file_of : PrismFile → File
file_of f = record {
  constants = map const_of f.constants;
  globals = map var_of f.globals;
  formulas = map formula_of f.formulas;
  modules = map module_of f.modules;
  labels = map label_of f.labels;
  rewards = map rewards_of f.rewards;
  init = option_map tree f.init;
  end = f.end;
}
