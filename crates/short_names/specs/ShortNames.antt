-- Which PRISM files have no name of more than 255 bytes. (The limit is this project's own rule.)
use Rattle.std.specs.Prelude.{ℕ, ◌≤◌, List, length}
use Rattle.std.specs.List.{AllByRecursion as Each}
use Rattle.basics.specs.Options.{IfAny}
use Rattle.bridge_io.specs.declared.reason.Named.{Named}
use Rattle.op_trees.specs.Tree.{Truth, Number, Name, One, Two, Three}
use Rattle.prism_tree.specs.declared.syntax.CopiedModule.{CopiedModule}
use Rattle.prism_tree.specs.declared.syntax.NamePair.{NamePair}
use Rattle.prism_tree.specs.declared.syntax.ItemOn.{ItemOn}
use Rattle.prism_tree.specs.declared.syntax.ItemOn.TheVariants.{InState, Silent, Action}
use Rattle.prism_tree.specs.Syntax.{Expression, Const, Range, Var, Formula, Label, Write, Branch, Command, Body, Module, plain, copied, Item, Rewards, File}

abbrev pub IsShort : List ℕ → Type 0
IsShort x = length x ≤ 255

abbrev pub ShortNamed : Named → Type 0
ShortNamed x = IsShort x.name

-- each name that stands in it
abbrev pub ShortExpression : Expression → Type 0
ShortExpression (Truth at b) = Unit {0}
ShortExpression (Number at d) = Unit {0}
ShortExpression (Name at x) = IsShort x
ShortExpression (One at o a) = ShortExpression a
ShortExpression (Two at o a b) = ShortExpression a × ShortExpression b
ShortExpression (Three at o a b c) = ShortExpression a × ShortExpression b × ShortExpression c

abbrev pub ShortConst : Const → Type 0
ShortConst c = ShortNamed c.name × IfAny ShortExpression c.value

abbrev pub ShortRange : Range → Type 0
ShortRange r = ShortExpression r.low × ShortExpression r.high

abbrev pub ShortVar : Var → Type 0
ShortVar v = ShortNamed v.name × IfAny ShortRange v.range × IfAny ShortExpression v.start

abbrev pub ShortFormula : Formula → Type 0
ShortFormula f = ShortNamed f.name × ShortExpression f.body

abbrev pub ShortLabel : Label → Type 0
ShortLabel l = ShortNamed l.name × ShortExpression l.body

abbrev pub ShortWrite : Write → Type 0
ShortWrite w = ShortNamed w.name × ShortExpression w.value

abbrev pub ShortBranch : Branch → Type 0
ShortBranch b = IfAny ShortExpression b.weight × Each ShortWrite b.writes

abbrev pub ShortCommand : Command → Type 0
ShortCommand c = IfAny ShortNamed c.action × ShortExpression c.guard × Each ShortBranch c.branches

abbrev pub ShortBody : Body → Type 0
ShortBody m = ShortNamed m.name × Each ShortVar m.vars × Each ShortCommand m.commands

abbrev pub ShortPair : NamePair → Type 0
ShortPair p = ShortNamed p.old × ShortNamed p.new

abbrev pub ShortCopy : CopiedModule → Type 0
ShortCopy m = ShortNamed m.name × ShortNamed m.from × Each ShortPair m.pairs

abbrev pub ShortModule : Module → Type 0
ShortModule (plain m) = ShortBody m
ShortModule (copied m) = ShortCopy m

abbrev pub ShortOn : ItemOn → Type 0
ShortOn InState = Unit {0}
ShortOn Silent = Unit {0}
ShortOn (Action a) = ShortNamed a

abbrev pub ShortItem : Item → Type 0
ShortItem i = ShortOn i.on × ShortExpression i.guard × ShortExpression i.value

abbrev pub ShortRewards : Rewards → Type 0
ShortRewards r = IfAny ShortNamed r.name × Each ShortItem r.items

-- no name in the file has more than 255 bytes
pub record HasShortNames (f : File) : Type 0 where
  pub constants : Each ShortConst f.constants
  pub globals : Each ShortVar f.globals
  pub formulas : Each ShortFormula f.formulas
  pub modules : Each ShortModule f.modules
  pub labels : Each ShortLabel f.labels
  pub rewards : Each ShortRewards f.rewards
