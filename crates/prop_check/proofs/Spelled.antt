-- The form of the properties that a text spells.
use Rattle.std.proofs.Common.{◌≡◌, ℕ, true, false, List, [], ◌∷◌, map, Bool, Option, Some, None, subst}
use Rattle.std.specs.List.{AllByRecursion as Each}
use Rattle.bridge_io.specs.declared.reason.Named.{Named}
use Rattle.std.specs.Prelude.{if◌then◌else◌}
use Rattle.basics.specs.Each.{each_join}
use Rattle.op_trees.specs.Tree.{Name}
use Rattle.prism_lex.specs.declared.token.TokenKind.{TokenKind}
use Rattle.prism_lex.specs.declared.token.TokenKind.TheVariants as K
use Rattle.prism_lex.specs.Tokens.{Lexeme, IsKind, Reads, finished, end_of}
use Rattle.prism_lex.proofs.Worth.{worth_normal}
use Rattle.prism_tree.specs.declared.operator.PrismOp.{PrismOp}
use Rattle.prism_tree.specs.Syntax.{Expression}
use Rattle.prism_tree.specs.Lang.{Lang, token_with}
use Rattle.prism_tree.specs.Grammar.{function_of, expr}
use Rattle.prop_grammar.specs.declared.syntax.Structure.{Structure}
use Rattle.prop_grammar.specs.Property.{Ask, greatest, least, bounded, greatest_reward, least_reward, Path, finally, globally, weak_until}
use Rattle.prop_grammar.specs.Grammar.{as_name, name_kind, is_name, named_if, function_name, unopened, finally_by, until_by, bound, plain_within, named_within, within, near_target, any_target, target, highest, lowest, compared_probability, lower_probability, probability, most_of, least_of, of_structure, highest_reward, lowest_reward, named_reward, lower_reward, reward, eventually, always, strong_after, weak_after, after, path, reach, probability_query, reward_query, query, titled_query, titled, property, properties, first_one, called}
use Rattle.prop_grammar.specs.Faults.{operand}
use Rattle.prop_trees.specs.Trees.{ask_parts, path_parts, Role}
use Rattle.prop_trees.specs.Form.{IsFinally}
use Rattle.prop_check.specs.Laws.{AsksFinally, IsWritten, SpelledHaveForm}
use Rattle.prism_print.proofs.Keeping.{Keeps, then_keeps, gives_keeps, or_keeps, any_then, many_keeps, prim_keeps, expr_keeps}
use Rattle.prop_check.proofs.Keeping.{KindHolds, Holds, Good, formed}

-- ---- what is asked, and the paths

abbrev pub GoodParts : List (Role × Expression) → Type 0
GoodParts xs = Each (λ x. Good x.1) xs

abbrev pub GoodAsk : Ask Expression Structure → Type 0
GoodAsk a = GoodParts (ask_parts a)

abbrev pub GoodPath : Path Expression → Type 0
GoodPath p = GoodParts (path_parts p)

-- what is asked of all paths
abbrev pub OfAny : Ask Expression Structure → Type 0
OfAny a = GoodAsk a × ((p : Path Expression) → AsksFinally a p)

-- a bound, if there is one, and an expression
abbrev pub GoodBound : Option Expression → Type 0
GoodBound None = Unit {0}
GoodBound (Some k) = Good k

abbrev pub GoodTarget : Option Expression × Expression → Type 0
GoodTarget p = GoodBound p.0 × Good p.1

good_name : (t : Lexeme) → Good (Name t.at t.text)
good_name t = record { literals = tt; operands = tt }

named_good : (t : Lexeme) (o : Option PrismOp) (e : Expression) → named_if t o ≡ Some e → Good e
named_good t None e h = absurd cc
named_good t (Some o) e h = let i : Name t.at t.text ≡ e = cc in subst Good i (good_name t)

function_good : (t : Lexeme) (b : Bool) (e : Expression) → (if b then named_if t (function_of t.text) else None) ≡ Some e → Good e
function_good t true e h = named_good t (function_of t.text) e h
function_good t false e h = absurd cc

function_keeps : Keeps Holds function_name Good
unfolding token_with
function_keeps = record { keeps = λ w e h p. function_good p.0 (is_name p.0.kind) e p.2 }

finally_good : (p : Option Expression × Expression) → GoodTarget p → GoodPath (finally_by p.0 p.1)
finally_good p g = of_bound p.0 g.0
  where
    of_bound : (k : Option Expression) → GoodBound k → GoodPath (finally_by k p.1)
    of_bound None h = (g.1, tt)
    of_bound (Some k) h = (h, (g.1, tt))

until_good : (a : Expression) (p : Option Expression × Expression) → Good a → GoodTarget p → GoodPath (until_by a p.0 p.1)
until_good a p h g = of_bound p.0 g.0
  where
    of_bound : (k : Option Expression) → GoodBound k → GoodPath (until_by a k p.1)
    of_bound None i = (h, (g.1, tt))
    of_bound (Some k) i = (i, (h, (g.1, tt)))

module _ (E B : Lang Expression) (e : Keeps Holds E Good) (b : Keeps Holds B Good) where
  bound_keeps : Keeps Holds (bound E B) Good
  unfolding bound
  bound_keeps = or_keeps b function_keeps

  plain_keeps : Keeps Holds (plain_within E B) (λ p. Good p.0 × Good p.1)
  unfolding plain_within
  plain_keeps = then_keeps b (λ k g. then_keeps e (λ x h. gives_keeps (k, x) (g, h)))

  unopened_keeps : Keeps Holds (unopened E) Good
  unfolding unopened
  unopened_keeps = record { keeps = λ w x h p. e.keeps w x h p.0 }

  named_keeps : Keeps Holds (named_within E B) (λ p. Good p.0 × Good p.1)
  unfolding named_within
  named_keeps = then_keeps function_keeps (λ k g. then_keeps unopened_keeps (λ x h. gives_keeps (k, x) (g, h)))

  within_keeps : Keeps Holds (within E B) (λ p. Good p.0 × Good p.1)
  unfolding within
  within_keeps = or_keeps plain_keeps named_keeps

  near_keeps : Keeps Holds (near_target E B) GoodTarget
  unfolding near_target
  near_keeps = any_then _ (λ t. then_keeps within_keeps (λ p g. gives_keeps (Some p.0, p.1) g))

  any_target_keeps : Keeps Holds (any_target E B) GoodTarget
  unfolding any_target
  any_target_keeps = then_keeps e (λ x g. gives_keeps (None, x) (tt, g))

  target_keeps : Keeps Holds (target E B) GoodTarget
  unfolding target
  target_keeps = or_keeps near_keeps any_target_keeps

  compared_keeps : Keeps Holds (compared_probability E B) OfAny
  unfolding compared_probability
  compared_keeps = any_then _ (λ t. any_then _ (λ c. then_keeps bound_keeps (λ p g. gives_keeps (bounded c p) ((g, tt), λ q. tt))))

  highest_keeps : Keeps Holds (highest E B) OfAny
  unfolding highest
  highest_keeps = any_then _ (λ t. gives_keeps greatest (tt, λ q. tt))

  lowest_keeps : Keeps Holds (lowest E B) OfAny
  unfolding lowest
  lowest_keeps = any_then _ (λ t. gives_keeps least (tt, λ q. tt))

  probability_keeps : Keeps Holds (probability E B) OfAny
  unfolding probability lower_probability
  probability_keeps = or_keeps highest_keeps (or_keeps lowest_keeps compared_keeps)

  most_keeps : (r : Structure) → Keeps Holds (most_of E B r) GoodAsk
  unfolding most_of
  most_keeps r = any_then _ (λ t. gives_keeps (greatest_reward r) tt)

  least_keeps : (r : Structure) → Keeps Holds (least_of E B r) GoodAsk
  unfolding least_of
  least_keeps r = any_then _ (λ t. gives_keeps (least_reward r) tt)

  structure_keeps : (r : Structure) → Keeps Holds (of_structure E B r) GoodAsk
  unfolding of_structure
  structure_keeps r = or_keeps (most_keeps r) (least_keeps r)

  highest_reward_keeps : Keeps Holds (highest_reward E B) GoodAsk
  unfolding highest_reward
  highest_reward_keeps = any_then _ (λ t. gives_keeps (greatest_reward (first_one t)) tt)

  lowest_reward_keeps : Keeps Holds (lowest_reward E B) GoodAsk
  unfolding lowest_reward
  lowest_reward_keeps = any_then _ (λ t. gives_keeps (least_reward (first_one t)) tt)

  named_reward_keeps : Keeps Holds (named_reward E B) GoodAsk
  unfolding named_reward
  named_reward_keeps = any_then _ (λ t. any_then _ (λ u. any_then _ (λ x. any_then _ (λ v. structure_keeps (called x)))))

  reward_keeps : Keeps Holds (reward E B) GoodAsk
  unfolding reward lower_reward
  reward_keeps = or_keeps highest_reward_keeps (or_keeps lowest_reward_keeps named_reward_keeps)

  eventually_keeps : Keeps Holds (eventually E B) GoodPath
  unfolding eventually
  eventually_keeps = any_then _ (λ t. then_keeps target_keeps (λ p g. gives_keeps (finally_by p.0 p.1) (finally_good p g)))

  always_keeps : Keeps Holds (always E B) GoodPath
  unfolding always
  always_keeps = any_then _ (λ t. then_keeps e (λ x g. gives_keeps (globally x) (g, tt)))

  strong_keeps : (a : Expression) → Good a → Keeps Holds (strong_after E B a) GoodPath
  unfolding strong_after
  strong_keeps a h = any_then _ (λ t. then_keeps target_keeps (λ p g. gives_keeps (until_by a p.0 p.1) (until_good a p h g)))

  weak_keeps : (a : Expression) → Good a → Keeps Holds (weak_after E B a) GoodPath
  unfolding weak_after
  weak_keeps a h = any_then _ (λ t. then_keeps e (λ x g. gives_keeps (weak_until a x) (h, (g, tt))))

  after_keeps : (a : Expression) → Good a → Keeps Holds (after E B a) GoodPath
  unfolding after
  after_keeps a h = or_keeps (strong_keeps a h) (weak_keeps a h)

  path_keeps : Keeps Holds (path E B) GoodPath
  unfolding path
  path_keeps = or_keeps eventually_keeps (or_keeps always_keeps (then_keeps e after_keeps))

  reach_keeps : Keeps Holds (reach E B) (λ p. GoodPath p × IsFinally p)
  unfolding reach
  reach_keeps = any_then _ (λ t. then_keeps e (λ x g. gives_keeps (finally x) ((g, tt), tt)))

  probability_query_keeps : (n : Option Named) → Keeps Holds (probability_query E B n) IsWritten
  unfolding probability_query
  probability_query_keeps n =
      then_keeps probability_keeps (λ a g. any_then _ (λ t. then_keeps path_keeps (λ p h. any_then _ (λ u.
      gives_keeps (record { name = n; ask = a; path = p }) (record { expressions = each_join (λ x. Good x.1) (ask_parts a) (path_parts p) g.0 h; asks = g.1 p })))))

  of_rewards : (a : Ask Expression Structure) (p : Path Expression) → IsFinally p → AsksFinally a p
  of_rewards greatest p f = tt
  of_rewards least p f = tt
  of_rewards (bounded c x) p f = tt
  of_rewards (greatest_reward r) p f = f
  of_rewards (least_reward r) p f = f

  reward_query_keeps : (n : Option Named) → Keeps Holds (reward_query E B n) IsWritten
  unfolding reward_query
  reward_query_keeps n =
      then_keeps reward_keeps (λ a g. any_then _ (λ t. then_keeps reach_keeps (λ p h. any_then _ (λ u.
      gives_keeps (record { name = n; ask = a; path = p }) (record { expressions = each_join (λ x. Good x.1) (ask_parts a) (path_parts p) g h.0; asks = of_rewards a p h.1 })))))

  query_keeps : (n : Option Named) → Keeps Holds (query E B n) IsWritten
  unfolding query
  query_keeps n = or_keeps (probability_query_keeps n) (reward_query_keeps n)

  titled_query_keeps : Keeps Holds (titled_query E B) IsWritten
  unfolding titled_query
  titled_query_keeps = any_then _ (λ x. any_then _ (λ t. query_keeps (Some x)))

  titled_keeps : Keeps Holds (titled E B) IsWritten
  unfolding titled
  titled_keeps = or_keeps (query_keeps None) titled_query_keeps

  property_keeps : Keeps Holds (property E B) IsWritten
  unfolding property
  property_keeps = then_keeps titled_keeps (λ p g. any_then _ (λ t. gives_keeps p g))

  pub properties_keep : Keeps Holds (properties E B) (Each IsWritten)
  unfolding properties
  properties_keep = many_keeps (property E B) property_keeps

operand_keeps : Keeps Holds operand Good
unfolding operand
operand_keeps = record { keeps = λ w x h p. (prim_keeps formed expr (expr_keeps formed)).keeps w x h p.0 }

-- ---- tokens

kind_holds : (text : List ℕ) (k : TokenKind) → IsKind text k → KindHolds (name_kind k)
kind_holds text (K.Word r) h = tt
kind_holds text (K.Symbol s) h = tt
kind_holds text K.Ident h = tt
kind_holds text K.Quoted h = tt
kind_holds text (K.Number d) h = worth_normal text d h
kind_holds text K.End h = tt

lexemes_from : (bytes : List ℕ) (ts : List Lexeme) (from : ℕ) → Reads bytes from ts finished → Each Holds (map as_name ts)
lexemes_from bytes [] from r = tt
lexemes_from bytes (t ∷ ts) from r = (kind_holds t.text t.kind r.0.kind, lexemes_from bytes ts (end_of t) r.1)

pub spelled_form : SpelledHaveForm
spelled_form bytes ps s = (properties_keep expr operand (expr_keeps formed) operand_keeps).keeps (map as_name s.tokens) ps (lexemes_from bytes s.tokens 0 s.are_tokens) s.spelled
