-- Which files are spelled by their canonical text.
use Rattle.std.specs.Prelude.{◌≡◌, true, List, [], ◌∷◌, Some}
use Rattle.std.specs.List.{AllByRecursion as Each}
use Rattle.basics.specs.Options.{IfAny}
use Rattle.basics.specs.Lists.{IsNotEmpty}
use Rattle.bridge_io.specs.declared.reason.Named.{Named}
use Rattle.frac_core.specs.Decimal.{IsLiteral}
use Rattle.op_trees.specs.Tree.{Truth, Number, Name, One, Two, Three}
use Rattle.prism_lex.specs.declared.token.TokenKind.TheVariants.{Ident}
use Rattle.prism_lex.specs.Tokens.{IsKind, is_name}
use Rattle.prism_tree.specs.declared.syntax.CopiedModule.{CopiedModule}
use Rattle.prism_tree.specs.declared.syntax.NamePair.{NamePair}
use Rattle.prism_tree.specs.declared.syntax.ItemOn.{ItemOn}
use Rattle.prism_tree.specs.declared.syntax.ItemOn.TheVariants.{InState, Silent, Action}
use Rattle.prism_tree.specs.Operators.{arity}
use Rattle.prism_tree.specs.Syntax.{Expression, Const, Range, Var, Formula, Label, Write, Branch, Command, Body, Module, plain, copied, Item, Rewards, File}

-- an identifier, which is not reserved
abbrev pub IsIdentifier : Named → Type 0
IsIdentifier x = IsKind x.name Ident

-- what a quoted name may hold
abbrev pub IsTitle : Named → Type 0
IsTitle x = is_name x.name ≡ true

-- Names are identifiers, literals as above, and each node has as many operands as its operator.
abbrev pub IsPrintableExpression : Expression → Type 0
IsPrintableExpression (Truth at b) = Unit {0}
IsPrintableExpression (Number at d) = IsLiteral d
IsPrintableExpression (Name at x) = IsKind x Ident
IsPrintableExpression (One at o a) = (arity o ≡ 1) × IsPrintableExpression a
IsPrintableExpression (Two at o a b) = (arity o ≡ 2) × IsPrintableExpression a × IsPrintableExpression b
IsPrintableExpression (Three at o a b c) = (arity o ≡ 3) × IsPrintableExpression a × IsPrintableExpression b × IsPrintableExpression c

abbrev pub IsPrintableConst : Const → Type 0
IsPrintableConst c = IsIdentifier c.name × IfAny IsPrintableExpression c.value

abbrev pub IsPrintableRange : Range → Type 0
IsPrintableRange r = IsPrintableExpression r.low × IsPrintableExpression r.high

abbrev pub IsPrintableVar : Var → Type 0
IsPrintableVar v = IsIdentifier v.name × IfAny IsPrintableRange v.range × IfAny IsPrintableExpression v.start

abbrev pub IsPrintableFormula : Formula → Type 0
IsPrintableFormula f = IsIdentifier f.name × IsPrintableExpression f.body

abbrev pub IsPrintableLabel : Label → Type 0
IsPrintableLabel l = IsTitle l.name × IsPrintableExpression l.body

abbrev pub IsPrintableWrite : Write → Type 0
IsPrintableWrite w = IsIdentifier w.name × IsPrintableExpression w.value

abbrev pub IsPrintableBranch : Branch → Type 0
IsPrintableBranch b = IfAny IsPrintableExpression b.weight × Each IsPrintableWrite b.writes

abbrev pub HasWeight : Branch → Type 0
HasWeight b = (e : Expression) × (b.weight ≡ Some e)

-- There is a branch, and each of several has a probability.
abbrev pub AreBranches : List Branch → Type 0
AreBranches [] = ⊥
AreBranches (b ∷ []) = Unit {0}
AreBranches (b ∷ c ∷ bs) = Each HasWeight (b ∷ c ∷ bs)

abbrev pub IsPrintableCommand : Command → Type 0
IsPrintableCommand c = IfAny IsIdentifier c.action × IsPrintableExpression c.guard × AreBranches c.branches × Each IsPrintableBranch c.branches

abbrev pub IsPrintableBody : Body → Type 0
IsPrintableBody m = IsIdentifier m.name × Each IsPrintableVar m.vars × Each IsPrintableCommand m.commands

abbrev pub IsPrintablePair : NamePair → Type 0
IsPrintablePair p = IsIdentifier p.old × IsIdentifier p.new

-- There is a pair.
abbrev pub IsPrintableCopy : CopiedModule → Type 0
IsPrintableCopy m = IsIdentifier m.name × IsIdentifier m.from × IsNotEmpty m.pairs × Each IsPrintablePair m.pairs

abbrev pub IsPrintableModule : Module → Type 0
IsPrintableModule (plain m) = IsPrintableBody m
IsPrintableModule (copied m) = IsPrintableCopy m

abbrev pub IsPrintableOn : ItemOn → Type 0
IsPrintableOn InState = Unit {0}
IsPrintableOn Silent = Unit {0}
IsPrintableOn (Action a) = IsIdentifier a

abbrev pub IsPrintableItem : Item → Type 0
IsPrintableItem i = IsPrintableOn i.on × IsPrintableExpression i.guard × IsPrintableExpression i.value

abbrev pub IsPrintableRewards : Rewards → Type 0
IsPrintableRewards r = IfAny IsTitle r.name × Each IsPrintableItem r.items

pub record IsPrintable (f : File) : Type 0 where
  pub constants : Each IsPrintableConst f.constants
  pub globals : Each IsPrintableVar f.globals
  pub formulas : Each IsPrintableFormula f.formulas
  pub modules : Each IsPrintableModule f.modules
  pub labels : Each IsPrintableLabel f.labels
  pub rewards : Each IsPrintableRewards f.rewards
  pub init : IfAny IsPrintableExpression f.init
