-- The grammar of PRISM files of kind mdp, one clause for each production (PRISM manual, "The PRISM Language"). Between
-- apostrophes stand words and symbols; { } is any number, [ ] one or none.
use Rattle.std.specs.Prelude.{ℕ, zero, suc, ◌==◌, Bool, true, false, List, [], ◌∷◌, ◌++◌, Option, Some, None, codes, drop, if◌then◌else◌}
use Rattle.bridge_io.specs.declared.reason.Named.{Named}
use Rattle.op_trees.specs.declared.tree.Ty.{Ty}
use Rattle.op_trees.specs.declared.tree.Ty.TheVariants as T
use Rattle.op_trees.specs.Tree.{Truth, Number, Name, One, Two, Three}
use Rattle.op_trees.specs.Names.{offset_of}
use Rattle.prism_lex.specs.declared.token.TokenKind.{TokenKind}
use Rattle.prism_lex.specs.declared.token.TokenKind.TheVariants as K
use Rattle.prism_lex.specs.declared.words.Reserved.{Reserved}
use Rattle.prism_lex.specs.declared.words.Reserved.TheVariants as W
use Rattle.prism_lex.specs.declared.symbols.Symbol.{Symbol}
use Rattle.prism_lex.specs.declared.symbols.Symbol.TheVariants as S
use Rattle.prism_lex.specs.Words.{lookup}
use Rattle.prism_lex.specs.Tokens.{Lexeme}
use Rattle.prism_tree.specs.declared.operator.PrismOp.{PrismOp}
use Rattle.prism_tree.specs.declared.operator.PrismOp.TheVariants as O
use Rattle.prism_tree.specs.declared.syntax.NamePair.{NamePair}
use Rattle.prism_tree.specs.declared.syntax.ItemOn.{ItemOn}
use Rattle.prism_tree.specs.declared.syntax.ItemOn.TheVariants.{InState, Silent, Action}
use Rattle.prism_tree.specs.Syntax.{Expression, moved, Const, Range, Var, Formula, Label, Write, Branch, Command, Module, plain, copied, Item, Rewards, File}
use Rattle.prism_tree.specs.Lang.{Lang, token, token_with, gives, never, ◌>>=◌, ◌>>◌, ◌or◌, optional, many, folding, front}

-- ---- words, symbols and names

abbrev pub word : Reserved → Lang Lexeme
word r = token (K.Word r)

abbrev pub symbol : Symbol → Lang Lexeme
symbol s = token (K.Symbol s)

abbrev pub named : List ℕ → ℕ → Named
named x at = record { name = x; at = at }

-- Ident
unfoldable pub name : Lang Named
name = token K.Ident >>= λ t. gives (named t.text t.at)

-- the text between the first byte and the last
abbrev pub but_last : List ℕ → List ℕ
but_last [] = []
but_last (b ∷ []) = []
but_last (b ∷ c ∷ bs) = b ∷ but_last (c ∷ bs)

abbrev pub unquoted : List ℕ → List ℕ
unquoted w = but_last (drop 1 w)

-- Quoted; the name is what stands between the quotes, and its place is that of the first quote
unfoldable pub quoted : Lang Named
quoted = token K.Quoted >>= λ t. gives (named (unquoted t.text) t.at)

-- ---- expressions (manual, "Expressions")

-- The operators that stand between two operands, with their levels, from those that bind tightest on. At level 0 stands
-- the minus before an operand, at level 5 the exclamation mark.
abbrev pub infix_at : Symbol → Option (ℕ × PrismOp)
infix_at S.Star = Some (1, O.Mul)
infix_at S.Slash = Some (1, O.Div)
infix_at S.Plus = Some (2, O.Add)
infix_at S.Minus = Some (2, O.Sub)
infix_at S.Less = Some (3, O.Less)
infix_at S.AtMost = Some (3, O.AtMost)
infix_at S.AtLeast = Some (3, O.AtLeast)
infix_at S.Greater = Some (3, O.Greater)
infix_at S.Equal = Some (4, O.Equal)
infix_at S.Unequal = Some (4, O.Unequal)
infix_at S.And = Some (6, O.And)
infix_at S.Or = Some (7, O.Or)
infix_at S.Iff = Some (8, O.Iff)
infix_at S.Implies = Some (9, O.Implies)
infix_at s = None

abbrev pub infix_of : TokenKind → Option (ℕ × PrismOp)
infix_of (K.Symbol s) = infix_at s
infix_of (K.Word _) = None
infix_of K.Ident = None
infix_of K.Quoted = None
infix_of (K.Number _) = None
infix_of K.End = None

abbrev pub at_level : ℕ → Option (ℕ × PrismOp) → Option PrismOp
at_level n None = None
at_level n (Some p) = if p.0 == n then Some p.1 else None

-- the operator between two operands of a level that a token is
abbrev pub operator_at : ℕ → Lexeme → Option PrismOp
operator_at n t = at_level n (infix_of t.kind)

-- the operator before an operand of a level, if the level has one
abbrev pub prefix_at : ℕ → Option (Symbol × PrismOp)
prefix_at n = if n == 0 then Some (S.Minus, O.Neg) else if n == 5 then Some (S.Not, O.Not) else None

-- An infix node begins where its first operand begins.
abbrev pub joined_by : Expression → PrismOp × Expression → Expression
joined_by a r = Two (offset_of a) r.0 a r.1

-- the operator of these tokens before an operand, each node at its token
abbrev pub applied : PrismOp → List Lexeme → Expression → Expression
applied o [] e = e
applied o (t ∷ ts) e = One t.at o (applied o ts e)

-- an operator of a level, and an operand
unfoldable pub operand : ℕ → Lang Expression → Lang (PrismOp × Expression)
operand n L = do
  o ← token_with (operator_at n)
  e ← L
  gives (o, e)

-- L { operator L }, to the left
unfoldable pub chain : ℕ → Lang Expression → Lang Expression
chain n L = L >>= λ a. folding joined_by (operand n L) a

-- { sign } L
unfoldable pub prefixed : Symbol → PrismOp → Lang Expression → Lang Expression
prefixed s o L = do
  signs ← many (symbol s)
  e ← L
  gives (applied o signs e)

abbrev pub over_prefix : Option (Symbol × PrismOp) → ℕ → Lang Expression → Lang Expression
over_prefix (Some p) n L = prefixed p.0 p.1 L
over_prefix None n L = chain n L

-- the identifiers that are functions where '(' follows
abbrev pub function_of : List ℕ → Option PrismOp
function_of x = lookup x ((codes "floor", O.Floor) ∷ (codes "ceil", O.Ceil) ∷ (codes "mod", O.Mod) ∷ [])

abbrev pub number_of : Lexeme → TokenKind → Option Expression
number_of t (K.Number d) = Some (Number t.at d)
number_of t (K.Word _) = None
number_of t K.Ident = None
number_of t K.Quoted = None
number_of t (K.Symbol _) = None
number_of t K.End = None

abbrev pub number_at : Lexeme → Option Expression
number_at t = number_of t t.kind

-- true | false
unfoldable pub truth : Reserved → Bool → Lang Expression
truth r b = word r >>= λ t. gives (Truth t.at b)

-- E: the expressions that may stand inside others
module _ (E : Lang Expression) where
  -- ( E ), whose node begins at the parenthesis
  unfoldable pub parenthesised : Lang Expression
  parenthesised = do
    first ← symbol S.LeftParenthesis
    e ← E
    symbol S.RightParenthesis
    gives (moved first.at e)

  -- , E
  unfoldable pub argument : Lang Expression
  argument = symbol S.Comma >> E

  -- ( E ), the argument of a function at this offset
  unfoldable pub one_argument : PrismOp → ℕ → Lang Expression
  one_argument o at = do
    symbol S.LeftParenthesis
    e ← E
    symbol S.RightParenthesis
    gives (One at o e)

  -- ( E , E )
  unfoldable pub two_arguments : PrismOp → ℕ → Lang Expression
  two_arguments o at = do
    symbol S.LeftParenthesis
    a ← E
    b ← argument
    symbol S.RightParenthesis
    gives (Two at o a b)

  -- the arguments of floor, ceil and mod; any other name has none
  abbrev pub arguments : Option PrismOp → ℕ → Lang Expression
  arguments None at = never
  arguments (Some O.Mod) at = two_arguments O.Mod at
  arguments (Some o) at = one_argument o at

  -- Ident | floor ( E ) | ceil ( E ) | mod ( E , E )
  unfoldable pub name_or_call : Lang Expression
  name_or_call = token K.Ident >>= λ t. gives (Name t.at t.text) or arguments (function_of t.text) t.at

  -- min ( E , E { , E } ), to the left, each node at the word
  unfoldable pub extremum : Reserved → PrismOp → Lang Expression
  extremum r o = do
    t ← word r
    symbol S.LeftParenthesis
    a ← E
    b ← argument
    e ← folding (λ x y. Two t.at o x y) argument (Two t.at o a b)
    symbol S.RightParenthesis
    gives e

  -- Prim = true | false | Number | Ident | ( E ) | min ( E , E { , E } ) | max ( E , E { , E } )
  --      | floor ( E ) | ceil ( E ) | mod ( E , E )
  unfoldable pub prim : Lang Expression
  prim =
      truth W.True true or (truth W.False false or (token_with number_at or (name_or_call or (parenthesised
      or (extremum W.Min O.Min or extremum W.Max O.Max)))))

  -- Level 0 is Prim, 1 Neg, 2 Mul, 3 Sum, 4 Rel, 5 Eq, 6 Not, 7 And, 8 Or, 9 Iff, 10 Or5:
  --   Neg = { - } Prim          Mul = Neg { (* /) Neg }       Sum = Mul { (+ -) Mul }
  --   Rel = Sum { (< <= >= >) Sum }                           Eq  = Rel { (= !=) Rel }
  --   Not = { ! } Eq            And = Not { & Not }           Or  = And { | And }
  --   Iff = Or { <=> Or }       Or5 = Iff { => Iff }
  abbrev pub level : ℕ → Lang Expression
  level zero = prim
  level (suc n) = over_prefix (prefix_at n) n (level n)

  -- ? E : E, whose node begins where the condition begins
  unfoldable pub choice : Expression → Lang Expression
  choice c = do
    symbol S.Question
    a ← E
    symbol S.Colon
    b ← E
    gives (Three (offset_of c) O.Ite c a b)

  -- Or5 [ ? E : E ]
  unfoldable pub conditional : Lang Expression
  conditional = level 10 >>= λ c. gives c or choice c

-- with expressions inside one another to a depth
abbrev pub expr_at : ℕ → Lang Expression
expr_at zero w e = ⊥
expr_at (suc n) w e = conditional (expr_at n) w e

-- E = Or5 [ ? E : E ]
unfoldable pub expr : Lang Expression
expr w e = (n : ℕ) × expr_at n w e

-- ---- files

abbrev pub one_branch : List Write → List Branch
one_branch ws = record { weight = None; writes = ws } ∷ []

abbrev pub on_action : Option Named → ItemOn
on_action None = Silent
on_action (Some a) = Action a

-- what an item is; Kind and Init are none of these
pub data Section : Type 0 where
  a_const : Const → Section
  a_global : Var → Section
  a_formula : Formula → Section
  a_module : Module → Section
  a_label : Label → Section
  a_rewards : Rewards → Section

-- an empty file whose text has this length
abbrev pub empty : ℕ → File
empty end = record { constants = []; globals = []; formulas = []; modules = []; labels = []; rewards = []; init = None; end = end }

-- one item more
abbrev pub with_section : File → Section → File
with_section f (a_const c) = record { constants = f.constants ++ c ∷ []; globals = f.globals; formulas = f.formulas; modules = f.modules; labels = f.labels; rewards = f.rewards; init = f.init; end = f.end }
with_section f (a_global v) = record { constants = f.constants; globals = f.globals ++ v ∷ []; formulas = f.formulas; modules = f.modules; labels = f.labels; rewards = f.rewards; init = f.init; end = f.end }
with_section f (a_formula x) = record { constants = f.constants; globals = f.globals; formulas = f.formulas ++ x ∷ []; modules = f.modules; labels = f.labels; rewards = f.rewards; init = f.init; end = f.end }
with_section f (a_module m) = record { constants = f.constants; globals = f.globals; formulas = f.formulas; modules = f.modules ++ m ∷ []; labels = f.labels; rewards = f.rewards; init = f.init; end = f.end }
with_section f (a_label l) = record { constants = f.constants; globals = f.globals; formulas = f.formulas; modules = f.modules; labels = f.labels ++ l ∷ []; rewards = f.rewards; init = f.init; end = f.end }
with_section f (a_rewards r) = record { constants = f.constants; globals = f.globals; formulas = f.formulas; modules = f.modules; labels = f.labels; rewards = f.rewards ++ r ∷ []; init = f.init; end = f.end }

-- the file with an initial condition
abbrev pub with_init : File → Expression → File
with_init f e = record { constants = f.constants; globals = f.globals; formulas = f.formulas; modules = f.modules; labels = f.labels; rewards = f.rewards; init = Some e; end = f.end }

-- V: what else may stand behind the colon of a variable. In a file of the profile nothing does; the word int would in one
-- with unbounded variables.
abbrev pub int_too : Bool → Lang (Option Range)
int_too false = never
int_too true = word W.Int >> gives None

-- E: the expressions that stand inside no other
module _ (E : Lang Expression) (V : Lang (Option Range)) where
  -- int | double | bool, or none of them for int
  unfoldable pub const_type : Lang Ty
  const_type = gives T.Int or ((word W.Int >> gives T.Int) or ((word W.Double >> gives T.Real) or (word W.BoolWord >> gives T.Bool)))

  -- Const = const [ int | double | bool ] Ident [ = E ] ; (manual, "Constants")
  unfoldable pub const_item : Lang Const
  const_item = do
    word W.Const
    ty ← const_type
    x ← name
    value ← optional (symbol S.Equal >> E)
    symbol S.Semicolon
    gives (record { name = x; ty = ty; value = value })

  -- [ E .. E ]
  unfoldable pub range : Lang Range
  range = do
    symbol S.LeftBracket
    low ← E
    symbol S.Dots
    high ← E
    symbol S.RightBracket
    gives (record { low = low; high = high })

  -- Var = Ident : ( [ E .. E ] | bool | V ) [ init E ] ; (manual, "Modules and Variables")
  unfoldable pub var : Lang Var
  var = do
    x ← name
    symbol S.Colon
    r ← (range >>= λ r. gives (Some r)) or ((word W.BoolWord >> gives None) or V)
    start ← optional (word W.Init >> E)
    symbol S.Semicolon
    gives (record { name = x; range = r; start = start })

  -- Global = global Var (manual, "Global Variables")
  unfoldable pub global_item : Lang Var
  global_item = word W.Global >> var

  -- Formula = formula Ident = E ; (manual, "Formulas and Labels")
  unfoldable pub formula_item : Lang Formula
  formula_item = do
    word W.Formula
    x ← name
    symbol S.Equal
    e ← E
    symbol S.Semicolon
    gives (record { name = x; body = e })

  -- Label = label Quoted = E ;
  unfoldable pub label_item : Lang Label
  label_item = do
    word W.Label
    x ← quoted
    symbol S.Equal
    e ← E
    symbol S.Semicolon
    gives (record { name = x; body = e })

  -- ( Ident ' = E )
  unfoldable pub write : Lang Write
  write = do
    symbol S.LeftParenthesis
    x ← name
    symbol S.Prime
    symbol S.Equal
    e ← E
    symbol S.RightParenthesis
    gives (record { name = x; value = e })

  -- Update = true | ( Ident ' = E ) { & ( Ident ' = E ) }
  unfoldable pub update : Lang (List Write)
  update = (word W.True >> gives []) or (write >>= λ w. front (symbol S.And >> write) (w ∷ []))

  -- E : Update
  unfoldable pub weighted : Lang Branch
  weighted = do
    p ← E
    symbol S.Colon
    ws ← update
    gives (record { weight = Some p; writes = ws })

  -- Updates = Update | E : Update { + E : Update }
  unfoldable pub updates : Lang (List Branch)
  updates = (update >>= λ ws. gives (one_branch ws)) or (weighted >>= λ b. front (symbol S.Plus >> weighted) (b ∷ []))

  -- Command = '[' [ Ident ] ']' E -> Updates ; (manual, "Commands")
  unfoldable pub command : Lang Command
  command = do
    symbol S.LeftBracket
    action ← optional name
    symbol S.RightBracket
    guard ← E
    symbol S.Arrow
    branches ← updates
    symbol S.Semicolon
    gives (record { action = action; guard = guard; branches = branches })

  -- { Var } { Command }
  unfoldable pub body : Named → Lang Module
  body x = do
    vars ← many var
    commands ← many command
    gives (plain (record { name = x; vars = vars; commands = commands }))

  -- Ident = Ident
  unfoldable pub pair : Lang NamePair
  pair = do
    old ← name
    symbol S.Equal
    new ← name
    gives (record { old = old; new = new })

  -- = Ident '[' Ident = Ident { , Ident = Ident } ']' (manual, "Module Renaming")
  unfoldable pub copy : Named → Lang Module
  copy x = do
    symbol S.Equal
    from ← name
    symbol S.LeftBracket
    first ← pair
    pairs ← front (symbol S.Comma >> pair) (first ∷ [])
    symbol S.RightBracket
    gives (copied (record { name = x; from = from; pairs = pairs }))

  -- Module = module Ident { Var } { Command } endmodule | module Ident = Ident '[' .. ']' endmodule
  unfoldable pub module_item : Lang Module
  module_item = do
    word W.Module
    x ← name
    m ← body x or copy x
    word W.Endmodule
    gives m

  -- RItem = [ '[' [ Ident ] ']' ] E : E ;
  unfoldable pub reward : Lang Item
  reward = do
    on ← gives InState or (symbol S.LeftBracket >> optional name >>= λ a. symbol S.RightBracket >> gives (on_action a))
    guard ← E
    symbol S.Colon
    value ← E
    symbol S.Semicolon
    gives (record { on = on; guard = guard; value = value })

  -- Rewards = rewards [ Quoted ] { RItem } endrewards (manual, "Costs and Rewards")
  unfoldable pub rewards_item : Lang Rewards
  rewards_item = do
    word W.Rewards
    x ← optional quoted
    items ← many reward
    word W.Endrewards
    gives (record { name = x; items = items })

  -- Const | Global | Formula | Module | Label | Rewards
  unfoldable pub section : Lang Section
  section =
      (const_item >>= λ c. gives (a_const c)) or ((global_item >>= λ v. gives (a_global v)) or ((formula_item >>= λ f. gives (a_formula f))
      or ((module_item >>= λ m. gives (a_module m)) or ((label_item >>= λ l. gives (a_label l)) or (rewards_item >>= λ r. gives (a_rewards r))))))

  -- Init = init E endinit (manual, "Multiple Initial States")
  unfoldable pub init_item : Lang Expression
  init_item = do
    word W.Init
    e ← E
    word W.Endinit
    gives e

  -- an Init, where the file has none yet
  abbrev pub init_if : Option Expression → Lang Expression
  init_if None = init_item
  init_if (Some e) = never

  -- { Section }, in which an Init may stand where the file has none yet
  unfoldable pub items : File → Lang File
  items f = folding with_section section f >>= λ g. gives g or (init_if g.init >>= λ e. folding with_section section (with_init g e))

  -- File = { Item }, with exactly one Kind among the items and at most one Init; Item = Kind | Section | Init, Kind = mdp. The text
  -- has this length.
  unfoldable pub file_over : ℕ → Lang File
  file_over end = do
    f ← items (empty end)
    word W.Mdp
    items f
