-- Each production of the grammar of properties reads the same off lists of tokens that go together, where those that go together are
-- alike.
use Rattle.std.proofs.Common.{◌≡◌, ℕ, Bool, true, false, List, [], ◌∷◌, Some, None, refl, sym, ap, ◌∙◌, inl, inr}
use Rattle.std.specs.Prelude.{◌⊎◌, Option, ◌&&◌, if◌then◌else◌}
use Rattle.std.specs.Option.{option_map}
use Rattle.std.proofs.lemmas.Bool.{cases_Bool}
use Rattle.bridge_io.specs.declared.reason.Named.{Named}
use Rattle.prism_lex.specs.declared.token.TokenKind.{TokenKind}
use Rattle.prism_lex.specs.declared.token.TokenKind.TheVariants as K
use Rattle.prism_lex.specs.declared.words.Reserved.{Reserved}
use Rattle.prism_lex.specs.Tokens.{Lexeme}
use Rattle.prism_lex.specs.Alike.{is_named, Alike}
use Rattle.prism_tree.specs.Syntax.{Expression}
use Rattle.prism_tree.specs.Lang.{Lang}
use Rattle.prism_tree.proofs.Moving.{Pairs, Moves, Carries, then_moves, carry_moves, carry_then, gives_moves, gives_same, or_moves, many_moves}
use Rattle.prism_tree.proofs.GrammarMoves.{the_same, IsAlikeOf, token_carries, optional_token, past, token_with_moves}
use Rattle.prop_grammar.specs.declared.syntax.Structure.{Structure}
use Rattle.prop_grammar.specs.Property.{greatest_reward, least_reward}
use Rattle.prop_grammar.specs.Grammar as grammar
use Rattle.prism_tree.specs.Grammar.{named, unquoted, function_of}
use Rattle.prop_grammar.specs.Grammar.{is_name, has_quotes, named_if, title_of, title_text, compared, function_name_of, first_one, IsOpen}

-- ---- what is read off a token

name_named : (k : TokenKind) → is_named k ≡ false → is_name k ≡ false
name_named K.Ident e = e
name_named K.Quoted e = refl
name_named (K.Word r) e = refl
name_named (K.Number d) e = refl
name_named (K.Symbol s) e = refl
name_named K.End e = refl

-- What tokens other than names don't have is the same of tokens that are alike.
of_names : {B : Type 0} (f : Lexeme → Option B) → ((t : Lexeme) → is_name t.kind ≡ false → f t ≡ None) → (t u : Lexeme) → Alike t u → f t ≡ f u
of_names {B} f h t u a = go (cases_Bool (is_named t.kind))
  where
    go : (is_named t.kind ≡ true) ⊎ (is_named t.kind ≡ false) → f t ≡ f u
    go (inl e) = ap f (the_same t u a e)
    go (inr e) =
        let n = name_named t.kind e in
        h t n ∙ sym (h u (ap is_name (sym a.kind) ∙ n))

no_title : (t : Lexeme) → is_name t.kind ≡ false → title_of t ≡ None
no_title t e = ap (λ (b : Bool). option_map (λ (w : List ℕ). named (unquoted w) t.at) (if b && has_quotes t.text then Some t.text else None)) e

no_function_name : (t : Lexeme) → is_name t.kind ≡ false → function_name_of t ≡ None
no_function_name t e = ap (λ (b : Bool). if b then named_if t (function_of t.text) else None) e

module _ (R : Lexeme → Lexeme → Type 0) (alike : (t u : Lexeme) → R t u → Alike t u) where
  title_moves : Moves R grammar.title grammar.title
  title_moves = token_with_moves R alike title_of (of_names title_of no_title)

  function_name_moves : Moves R grammar.function_name grammar.function_name
  function_name_moves = token_with_moves R alike function_name_of (of_names function_name_of no_function_name)

  comparison_moves : Moves R grammar.comparison grammar.comparison
  comparison_moves = token_with_moves R alike _ (λ t u a. ap compared a.kind)

  question_moves : Moves R grammar.question grammar.question
  unfolding grammar.question
  question_moves = past R alike _ (λ _ _. past R alike _ (λ _ _. gives_moves R _))

  asks_carries : (r : Reserved) → Carries R (IsAlikeOf (K.Word r)) (grammar.asks r) (grammar.asks r)
  unfolding grammar.asks
  asks_carries r = carry_then R (token_carries R alike (K.Word r)) question_moves

-- ---- files

module _ (R : Lexeme → Lexeme → Type 0) (alike : (t u : Lexeme) → R t u → Alike t u) (E F B C : Lang Expression) (g : Moves R E F) (h : Moves R B C) where
  bound_moves : Moves R (grammar.bound E B) (grammar.bound F C)
  unfolding grammar.bound
  bound_moves = or_moves R h (function_name_moves R alike)

  not_open : (w v : List Lexeme) → Pairs R w v → (IsOpen w → ⊥) → IsOpen v → ⊥
  not_open [] [] r n o = absurd o
  not_open [] (u ∷ v) r n o = absurd r
  not_open (t ∷ w) [] r n o = absurd r
  not_open (t ∷ w) (u ∷ v) r n o = n ((alike t u r.0).kind ∙ o)

  unopened_moves : Moves R (grammar.unopened E) (grammar.unopened F)
  unfolding grammar.unopened
  unopened_moves = record { moves = λ w v x r p. (g.moves w v x r p.0, not_open w v r p.1) }

  within_moves : Moves R (grammar.within E B) (grammar.within F C)
  unfolding grammar.within grammar.plain_within grammar.named_within
  within_moves =
      or_moves R (then_moves R h (λ _. then_moves R g (λ _. gives_moves R _))) (then_moves R (function_name_moves R alike) (λ _. then_moves R unopened_moves (λ _. gives_moves R _)))

  target_moves : Moves R (grammar.target E B) (grammar.target F C)
  unfolding grammar.target grammar.near_target grammar.any_target
  target_moves = or_moves R (past R alike _ (λ _ _. then_moves R within_moves (λ _. gives_moves R _))) (then_moves R g (λ _. gives_moves R _))

  probability_moves : Moves R (grammar.probability E B) (grammar.probability F C)
  unfolding grammar.probability grammar.highest grammar.lower_probability grammar.lowest grammar.compared_probability
  probability_moves =
      or_moves R (carry_moves R (asks_carries R alike _) (λ t u a. gives_moves R _)) (or_moves R (carry_moves R (asks_carries R alike _) (λ t u a. gives_moves R _))
      (past R alike _ (λ _ _. then_moves R (comparison_moves R alike) (λ _. then_moves R bound_moves (λ _. gives_moves R _)))))

  of_structure_moves : (s : Structure) → Moves R (grammar.of_structure E B s) (grammar.of_structure F C s)
  unfolding grammar.of_structure grammar.most_of grammar.least_of
  of_structure_moves s =
      or_moves R (carry_moves R (asks_carries R alike _) (λ t u a. gives_moves R _)) (carry_moves R (asks_carries R alike _) (λ t u a. gives_moves R _))

  reward_moves : Moves R (grammar.reward E B) (grammar.reward F C)
  unfolding grammar.reward grammar.highest_reward grammar.lower_reward grammar.lowest_reward grammar.named_reward
  reward_moves =
      or_moves R (carry_moves R (asks_carries R alike _) (λ t u a. gives_same R _ _ (ap (λ (n : ℕ). greatest_reward (record { name = None; at = n })) a.0.at)))
      (or_moves R (carry_moves R (asks_carries R alike _) (λ t u a. gives_same R _ _ (ap (λ (n : ℕ). least_reward (record { name = None; at = n })) a.0.at)))
      (past R alike _ (λ _ _. past R alike _ (λ _ _. then_moves R (title_moves R alike) (λ x. past R alike _ (λ _ _. of_structure_moves _))))))

  always_moves : Moves R (grammar.always E B) (grammar.always F C)
  unfolding grammar.always
  always_moves = past R alike _ (λ _ _. then_moves R g (λ _. gives_moves R _))

  eventually_moves : Moves R (grammar.eventually E B) (grammar.eventually F C)
  unfolding grammar.eventually
  eventually_moves = past R alike _ (λ _ _. then_moves R target_moves (λ _. gives_moves R _))

  after_moves : (a : Expression) → Moves R (grammar.after E B a) (grammar.after F C a)
  unfolding grammar.after grammar.strong_after grammar.weak_after
  after_moves a =
      or_moves R (past R alike _ (λ _ _. then_moves R target_moves (λ _. gives_moves R _))) (past R alike _ (λ _ _. then_moves R g (λ _. gives_moves R _)))

  path_moves : Moves R (grammar.path E B) (grammar.path F C)
  unfolding grammar.path
  path_moves = or_moves R eventually_moves (or_moves R always_moves (then_moves R g after_moves))

  reach_moves : Moves R (grammar.reach E B) (grammar.reach F C)
  unfolding grammar.reach
  reach_moves = past R alike _ (λ _ _. then_moves R g (λ _. gives_moves R _))

  query_moves : (n : Option Named) → Moves R (grammar.query E B n) (grammar.query F C n)
  unfolding grammar.query grammar.probability_query grammar.reward_query
  query_moves n =
      or_moves R (then_moves R probability_moves (λ _. past R alike _ (λ _ _. then_moves R path_moves (λ _. past R alike _ (λ _ _. gives_moves R _)))))
      (then_moves R reward_moves (λ _. past R alike _ (λ _ _. then_moves R reach_moves (λ _. past R alike _ (λ _ _. gives_moves R _)))))

  property_moves : Moves R (grammar.property E B) (grammar.property F C)
  unfolding grammar.property grammar.titled grammar.titled_query
  property_moves =
      then_moves R (or_moves R (query_moves None) (then_moves R (title_moves R alike) (λ x. past R alike _ (λ _ _. query_moves (Some x))))) (λ _.
      carry_moves R (optional_token R alike _) (λ _ _ _. gives_moves R _))

  pub properties_moves : Moves R (grammar.properties E B) (grammar.properties F C)
  unfolding grammar.properties
  properties_moves = many_moves R property_moves
