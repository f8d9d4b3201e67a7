-- The grammar of PRISM properties files, one clause for each production. The source is the PRISM manual, chapter "Property
-- Specification": its sections "The P Operator", "Reward-based Properties", "Quantitative Properties" and "Properties Files"; which of
-- its forms are read is this project's choice. { } is any number, [ ] one or none, and '[' and ']' are symbols:
--   Properties = { Property }
--   Property   = [ Quoted : ] Query [ ; ]
--   Query      = Pmax=? '[' Path ']' | Pmin=? '[' Path ']' | P (>= > <= <) Prim '[' Path ']'
--              | Rmax=? '[' F E ']' | Rmin=? '[' F E ']' | R { Quoted } (max | min) =? '[' F E ']'
--   Path       = F E | F<=Prim E | G E | E U E | E U<=Prim E | E W E
-- In E a name between quotes may stand, where it is a label ("Identifying A Set Of States"). So the tokens are read with each quoted
-- name as a name, which its quotes tell from the others. floor, ceil and mod before '(' begin a call, in a bound too.
use Rattle.std.specs.Prelude.{◌≡◌, ℕ, List, [], ◌∷◌, Option, Some, None, Bool, true, false, if◌then◌else◌, nat_eq, ◌&&◌}
use Rattle.std.specs.Option.{option_map}
use Rattle.bridge_io.specs.declared.reason.Named.{Named}
use Rattle.op_trees.specs.Tree.{Name}
use Rattle.prism_lex.specs.declared.token.TokenKind.{TokenKind}
use Rattle.prism_lex.specs.declared.token.TokenKind.TheVariants as K
use Rattle.prism_lex.specs.declared.words.Reserved.{Reserved}
use Rattle.prism_lex.specs.declared.words.Reserved.TheVariants as W
use Rattle.prism_lex.specs.declared.symbols.Symbol.TheVariants as S
use Rattle.prism_lex.specs.Tokens.{Lexeme}
use Rattle.prism_tree.specs.declared.operator.PrismOp.{PrismOp}
use Rattle.prism_tree.specs.Syntax.{Expression}
use Rattle.prism_tree.specs.Lang.{Lang, token_with, gives, ◌>>=◌, ◌>>◌, ◌or◌, optional, many}
use Rattle.prism_tree.specs.Grammar.{word, symbol, named, unquoted, function_of}
use Rattle.prop_grammar.specs.declared.syntax.Compare.{Compare}
use Rattle.prop_grammar.specs.declared.syntax.Compare.TheVariants as C
use Rattle.prop_grammar.specs.declared.syntax.Structure.{Structure}
use Rattle.prop_grammar.specs.Property.{Ask, greatest, least, bounded, greatest_reward, least_reward, Path, finally, globally, until, weak_until, finally_within, until_within}
use Rattle.prop_grammar.specs.Syntax.{WrittenProperty}

-- ---- tokens

-- A quoted name is read as a name.
abbrev pub name_kind : TokenKind → TokenKind
name_kind K.Quoted = K.Ident
name_kind (K.Word w) = K.Word w
name_kind K.Ident = K.Ident
name_kind (K.Number d) = K.Number d
name_kind (K.Symbol s) = K.Symbol s
name_kind K.End = K.End

abbrev pub as_name : Lexeme → Lexeme
as_name t = record { kind = name_kind t.kind; text = t.text; at = t.at }

-- the text begins with a quote
abbrev pub has_quotes : List ℕ → Bool
has_quotes [] = false
has_quotes (b ∷ bs) = nat_eq b 34

abbrev pub is_name : TokenKind → Bool
is_name K.Ident = true
is_name (K.Word _) = false
is_name K.Quoted = false
is_name (K.Number _) = false
is_name (K.Symbol _) = false
is_name K.End = false

-- the text of a token, if it has quotes
abbrev pub title_text : Lexeme → Option (List ℕ)
title_text t = if is_name t.kind && has_quotes t.text then Some t.text else None

-- the name between the quotes of a token, which stands at the first of them
abbrev pub title_of : Lexeme → Option Named
title_of t = option_map (λ w. named (unquoted w) t.at) (title_text t)

-- Quoted
abbrev pub title : Lang Named
title = token_with title_of

-- ---- what is asked

abbrev pub compared : TokenKind → Option Compare
compared (K.Symbol S.Less) = Some C.Less
compared (K.Symbol S.AtMost) = Some C.AtMost
compared (K.Symbol S.AtLeast) = Some C.AtLeast
compared (K.Symbol S.Greater) = Some C.Greater
compared (K.Word _) = None
compared K.Ident = None
compared K.Quoted = None
compared (K.Number _) = None
compared (K.Symbol _) = None
compared K.End = None

-- >= | > | <= | <
abbrev pub comparison : Lang Compare
comparison = token_with (λ t. compared t.kind)

-- =?
unfoldable pub question : Lang (Unit {0})
question = do
  symbol S.Equal
  symbol S.Question
  gives tt

-- W =?
unfoldable pub asks : Reserved → Lang Lexeme
asks r = do
  t ← word r
  question
  gives t

-- the structure of this name, and the first one, which a word asks for
abbrev pub called : Named → Structure
called x = record { name = Some x.name; at = x.at }

abbrev pub first_one : Lexeme → Structure
first_one t = record { name = None; at = t.at }

-- a name that is one of a function, alone
abbrev pub named_if : Lexeme → Option PrismOp → Option Expression
named_if t None = None
named_if t (Some o) = Some (Name t.at t.text)

abbrev pub function_name_of : Lexeme → Option Expression
function_name_of t = if is_name t.kind then named_if t (function_of t.text) else None

abbrev pub function_name : Lang Expression
function_name = token_with function_name_of

abbrev pub IsOpen : List Lexeme → Type 0
IsOpen [] = ⊥
IsOpen (t ∷ ts) = t.kind ≡ K.Symbol S.LeftParenthesis

-- these words, but none that begins with '('
unfoldable pub unopened : {A : Type 0} → Lang A → Lang A
unopened L w x = L w x × (IsOpen w → ⊥)

-- the paths to a target, within a bound if there is one
abbrev pub finally_by : Option Expression → Expression → Path Expression
finally_by None e = finally e
finally_by (Some k) e = finally_within k e

abbrev pub until_by : Expression → Option Expression → Expression → Path Expression
until_by a None e = until a e
until_by a (Some k) e = until_within k a e

-- E: the expressions that stand inside no other. B: the operands of expressions, Prim, that stand inside no other, but for the
-- names of functions alone: floor, ceil and mod.
module _ (E B : Lang Expression) where
  -- Prim, the bound of a probability
  unfoldable pub bound : Lang Expression
  bound = B or function_name

  -- Prim E. A name of a function is one alone only where no '(' follows.
  unfoldable pub plain_within : Lang (Expression × Expression)
  plain_within = do
    k ← B
    e ← E
    gives (k, e)

  unfoldable pub named_within : Lang (Expression × Expression)
  named_within = do
    k ← function_name
    e ← unopened E
    gives (k, e)

  unfoldable pub within : Lang (Expression × Expression)
  within = plain_within or named_within

  -- [ <= Prim ] E
  unfoldable pub near_target : Lang (Option Expression × Expression)
  near_target = do
    symbol S.AtMost
    p ← within
    gives (Some p.0, p.1)

  unfoldable pub any_target : Lang (Option Expression × Expression)
  any_target = do
    e ← E
    gives (None, e)

  unfoldable pub target : Lang (Option Expression × Expression)
  target = near_target or any_target

  -- Pmax=? | Pmin=? | P (>= > <= <) Prim
  unfoldable pub highest : Lang (Ask Expression Structure)
  highest = do
    asks W.Pmax
    gives greatest

  unfoldable pub lowest : Lang (Ask Expression Structure)
  lowest = do
    asks W.Pmin
    gives least

  unfoldable pub compared_probability : Lang (Ask Expression Structure)
  compared_probability = do
    word W.PWord
    c ← comparison
    p ← bound
    gives (bounded c p)

  unfoldable pub lower_probability : Lang (Ask Expression Structure)
  lower_probability = lowest or compared_probability

  unfoldable pub probability : Lang (Ask Expression Structure)
  probability = highest or lower_probability

  -- (max | min) =?, of a structure
  unfoldable pub most_of : Structure → Lang (Ask Expression Structure)
  most_of r = do
    asks W.Max
    gives (greatest_reward r)

  unfoldable pub least_of : Structure → Lang (Ask Expression Structure)
  least_of r = do
    asks W.Min
    gives (least_reward r)

  unfoldable pub of_structure : Structure → Lang (Ask Expression Structure)
  of_structure r = most_of r or least_of r

  -- Rmax=? | Rmin=? | R { Quoted } (max | min) =?
  unfoldable pub highest_reward : Lang (Ask Expression Structure)
  highest_reward = do
    t ← asks W.Rmax
    gives (greatest_reward (first_one t))

  unfoldable pub lowest_reward : Lang (Ask Expression Structure)
  lowest_reward = do
    t ← asks W.Rmin
    gives (least_reward (first_one t))

  unfoldable pub named_reward : Lang (Ask Expression Structure)
  named_reward = do
    word W.RWord
    symbol S.LeftBrace
    x ← title
    symbol S.RightBrace
    of_structure (called x)

  unfoldable pub lower_reward : Lang (Ask Expression Structure)
  lower_reward = lowest_reward or named_reward

  unfoldable pub reward : Lang (Ask Expression Structure)
  reward = highest_reward or lower_reward

  -- F E | F<=Prim E
  unfoldable pub eventually : Lang (Path Expression)
  eventually = do
    word W.FWord
    p ← target
    gives (finally_by p.0 p.1)

  -- G E
  unfoldable pub always : Lang (Path Expression)
  always = do
    word W.GWord
    e ← E
    gives (globally e)

  -- what stands behind E: U E | U<=Prim E | W E
  unfoldable pub strong_after : Expression → Lang (Path Expression)
  strong_after a = do
    word W.UWord
    p ← target
    gives (until_by a p.0 p.1)

  unfoldable pub weak_after : Expression → Lang (Path Expression)
  weak_after a = do
    word W.WWord
    e ← E
    gives (weak_until a e)

  unfoldable pub after : Expression → Lang (Path Expression)
  after a = strong_after a or weak_after a

  -- Path = F E | F<=Prim E | G E | E U E | E U<=Prim E | E W E
  unfoldable pub path : Lang (Path Expression)
  path = eventually or (always or (E >>= after))

  -- F E
  unfoldable pub reach : Lang (Path Expression)
  reach = do
    word W.FWord
    e ← E
    gives (finally e)

  -- Query, of a property with this name or without one
  unfoldable pub probability_query : Option Named → Lang WrittenProperty
  probability_query n = do
    a ← probability
    symbol S.LeftBracket
    p ← path
    symbol S.RightBracket
    gives (record { name = n; ask = a; path = p })

  unfoldable pub reward_query : Option Named → Lang WrittenProperty
  reward_query n = do
    a ← reward
    symbol S.LeftBracket
    p ← reach
    symbol S.RightBracket
    gives (record { name = n; ask = a; path = p })

  unfoldable pub query : Option Named → Lang WrittenProperty
  query n = probability_query n or reward_query n

  -- [ Quoted : ] Query
  unfoldable pub titled_query : Lang WrittenProperty
  titled_query = do
    x ← title
    symbol S.Colon
    query (Some x)

  unfoldable pub titled : Lang WrittenProperty
  titled = query None or titled_query

  -- [ Quoted : ] Query [ ; ]
  unfoldable pub property : Lang WrittenProperty
  property = do
    p ← titled
    optional (symbol S.Semicolon)
    gives p

  -- { Property }
  unfoldable pub properties : Lang (List WrittenProperty)
  properties = many property
