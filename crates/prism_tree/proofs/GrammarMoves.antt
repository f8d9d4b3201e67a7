-- Each production of the grammar reads the same off lists of tokens that go together, where those that go together are alike.
use Rattle.std.proofs.Common.{◌≡◌, ℕ, zero, suc, Bool, true, false, List, [], ◌∷◌, Some, None, refl, sym, ap, ap₂, subst, ◌∙◌, inl, inr}
use Rattle.std.specs.Prelude.{Option}
use Rattle.bridge_io.specs.declared.reason.Named.{Named}
use Rattle.op_trees.specs.Tree.{Truth, Number, Name, One, Two}
use Rattle.prism_lex.specs.declared.token.TokenKind.{TokenKind}
use Rattle.prism_lex.specs.declared.token.TokenKind.TheVariants as K
use Rattle.prism_lex.specs.declared.words.Reserved.{Reserved}
use Rattle.prism_lex.specs.declared.symbols.Symbol.{Symbol}
use Rattle.prism_lex.specs.declared.symbols.Symbol.TheVariants as S
use Rattle.prism_lex.specs.Tokens.{Lexeme}
use Rattle.prism_lex.specs.Alike.{is_named, Alike, AreAlike}
use Rattle.prism_tree.specs.declared.operator.PrismOp.{PrismOp}
use Rattle.prism_tree.specs.declared.operator.PrismOp.TheVariants as O
use Rattle.prism_tree.specs.Syntax.{Expression, moved, Range, File}
use Rattle.prism_tree.specs.Lang.{Lang, token, token_with, gives, ◌>>=◌, ◌>>◌, ◌or◌, optional, many, folding}
use Rattle.prism_tree.specs.Grammar as grammar
use Rattle.prism_tree.specs.Grammar.{named, unquoted, function_of, number_of, number_at, at_level, infix_of, applied, prefix_at, word, symbol}
use Rattle.prism_tree.proofs.Moving.{Pairs, pairs_split, pairs_one, pairs_none, Moves, Carries, then_moves, carry_moves, gives_moves, gives_same, never_moves, or_moves, many_moves, folding_moves, optional_moves}

-- ---- what is read off a token

-- names that are alike are the same
pub the_same : (t u : Lexeme) → Alike t u → is_named t.kind ≡ true → t ≡ u
the_same t u a e =
    ap₂ (λ (k : TokenKind) (w : List ℕ). record { kind = k; text = w; at = t.at }) a.kind (a.text e)
    ∙ ap (λ (n : ℕ). record { kind = u.kind; text = u.text; at = n }) a.at

number_of_same : (t u : Lexeme) (k : TokenKind) → t.at ≡ u.at → number_of t k ≡ number_of u k
number_of_same t u (K.Number d) e = ap (λ (n : ℕ). Some (Number n d)) e
number_of_same t u (K.Word r) e = refl
number_of_same t u K.Ident e = refl
number_of_same t u K.Quoted e = refl
number_of_same t u (K.Symbol s) e = refl
number_of_same t u K.End e = refl

number_same : (t u : Lexeme) → Alike t u → number_at t ≡ number_at u
number_same t u a = number_of_same t u t.kind a.at ∙ ap (λ (k : TokenKind). number_of u k) a.kind

applied_same : (o : PrismOp) (ts us : List Lexeme) (e : Expression) → AreAlike ts us → applied o ts e ≡ applied o us e
applied_same o [] [] e p = refl
applied_same o [] (u ∷ us) e p = absurd p
applied_same o (t ∷ ts) [] e p = absurd p
applied_same o (t ∷ ts) (u ∷ us) e p = ap₂ (λ (n : ℕ) (x : Expression). One n o x) p.0.at (applied_same o ts us e p.1)

-- they are alike, and of this kind
abbrev pub IsAlikeOf : TokenKind → Lexeme → Lexeme → Type 0
IsAlikeOf k t u = Alike t u × (t.kind ≡ k)

-- ---- tokens and names

module _ (R : Lexeme → Lexeme → Type 0) (alike : (t u : Lexeme) → R t u → Alike t u) where
  pub token_carries : (k : TokenKind) → Carries R (IsAlikeOf k) (token k) (token k)
  unfolding token
  token_carries k = record {
    carries = λ w v t r p.
        let o = pairs_one R t v (subst (λ (l : List Lexeme). Pairs R l v) p.0 r) in
        let a = alike t o.0 o.2 in
        (o.0, (o.1, sym a.kind ∙ p.1), (a, p.1));
  }

  pub tok : {B : Type 0} {k : TokenKind} {P Q : Lexeme → Lang B} → ((t u : Lexeme) → Alike t u → t.kind ≡ k → Moves R (P t) (Q u)) →
      Moves R (token k >>= P) (token k >>= Q)
  tok {B} {k} {P} {Q} h = carry_moves R (token_carries k) (λ t u s. h t u s.0 s.1)

  -- a token of which only the kind is looked at
  pub past : {B : Type 0} (k : TokenKind) {P Q : Lexeme → Lang B} → ((t u : Lexeme) → Moves R (P t) (Q u)) → Moves R (token k >>= P) (token k >>= Q)
  past k h = tok (λ t u a e. h t u)

  pub token_with_moves : {A : Type 0} (m : Lexeme → Option A) → ((t u : Lexeme) → Alike t u → m t ≡ m u) → Moves R (token_with m) (token_with m)
  unfolding token_with
  token_with_moves m h = record {
    moves = λ w v x r p.
        let o = pairs_one R p.0 v (subst (λ (l : List Lexeme). Pairs R l v) p.1 r) in
        (o.0, o.1, sym (h p.0 o.0 (alike p.0 o.0 o.2)) ∙ p.2);
  }

  many_tokens : (k : TokenKind) → Carries R AreAlike (many (token k)) (many (token k))
  unfolding many
  many_tokens k = record { carries = λ w v xs r p. go xs w v r p }
    where
      go : (xs w v : List Lexeme) → Pairs R w v → many (token k) w xs → (ys : List Lexeme) × many (token k) v ys × AreAlike xs ys
      go [] w v r p = ([], pairs_none R v (subst (λ (l : List Lexeme). Pairs R l v) p r), tt)
      go (x ∷ xs) w v r p =
          let s = pairs_split R p.0 p.1 v (subst (λ (l : List Lexeme). Pairs R l v) p.2 r) in
          let c = (token_carries k).carries p.0 s.0 x s.3 p.3 in
          let d = go xs p.1 s.1 s.4 p.4 in
          (c.0 ∷ d.0, (s.0, s.1, s.2, c.1, d.1), (c.2.0, d.2))

  -- a token that may be missing, of which nothing is looked at
  pub optional_token : (k : TokenKind) → Carries R (λ x y. Unit {0}) (optional (token k)) (optional (token k))
  unfolding ◌or◌ ◌>>=◌ gives
  optional_token k = record { carries = λ w v x r p. go w v x r p }
    where
      go : (w v : List Lexeme) (x : Option Lexeme) → Pairs R w v → optional (token k) w x → (y : Option Lexeme) × optional (token k) v y × Unit {0}
      go w v x r (inl n) = (None, inl (pairs_none R v (subst (λ (l : List Lexeme). Pairs R l v) n.0 r), refl), tt)
      go w v x r (inr p) =
          let s = pairs_split R p.1 p.2 v (subst (λ (l : List Lexeme). Pairs R l v) p.3 r) in
          let c = (token_carries k).carries p.1 s.0 p.0 s.3 p.4 in
          (Some c.0, inr (c.0, s.0, s.1, s.2, c.1, (pairs_none R s.1 (subst (λ (l : List Lexeme). Pairs R l s.1) p.5.0 s.4), refl)), tt)

  pub name_moves : Moves R grammar.name grammar.name
  unfolding grammar.name
  name_moves = tok (λ t u a e. gives_same R _ _ (ap₂ named (a.text (ap is_named e)) a.at))

  pub quoted_moves : Moves R grammar.quoted grammar.quoted
  unfolding grammar.quoted
  quoted_moves = tok (λ t u a e. gives_same R _ _ (ap₂ (λ (w : List ℕ) (n : ℕ). named (unquoted w) n) (a.text (ap is_named e)) a.at))

-- ---- expressions

module _ (R : Lexeme → Lexeme → Type 0) (alike : (t u : Lexeme) → R t u → Alike t u) where
  operand_moves : (n : ℕ) (L : Lang Expression) → Moves R L L → Moves R (grammar.operand n L) (grammar.operand n L)
  unfolding grammar.operand
  operand_moves n L g =
      then_moves R (token_with_moves R alike _ (λ t u a. ap (λ (k : TokenKind). at_level n (infix_of k)) a.kind)) (λ _. then_moves R g (λ _. gives_moves R _))

  chain_moves : (n : ℕ) (L : Lang Expression) → Moves R L L → Moves R (grammar.chain n L) (grammar.chain n L)
  unfolding grammar.chain
  chain_moves n L g = then_moves R g (λ a. folding_moves R _ _ (operand_moves n L g))

  prefixed_moves : (s : Symbol) (o : PrismOp) (L : Lang Expression) → Moves R L L → Moves R (grammar.prefixed s o L) (grammar.prefixed s o L)
  unfolding grammar.prefixed
  prefixed_moves s o L g = carry_moves R (many_tokens R alike (K.Symbol s)) (λ ts us a. then_moves R g (λ e. gives_same R _ _ (applied_same o ts us e a)))

  over_prefix_moves : (p : Option (Symbol × PrismOp)) (n : ℕ) (L : Lang Expression) → Moves R L L → Moves R (grammar.over_prefix p n L) (grammar.over_prefix p n L)
  over_prefix_moves (Some p) n L g = prefixed_moves p.0 p.1 L g
  over_prefix_moves None n L g = chain_moves n L g

  truth_moves : (r : Reserved) (b : Bool) → Moves R (grammar.truth r b) (grammar.truth r b)
  unfolding grammar.truth
  truth_moves r b = tok R alike (λ t u a e. gives_same R _ _ (ap (λ (n : ℕ). Truth n b) a.at))

module _ (R : Lexeme → Lexeme → Type 0) (alike : (t u : Lexeme) → R t u → Alike t u) (E : Lang Expression) (g : Moves R E E) where
  parenthesised_moves : Moves R (grammar.parenthesised E) (grammar.parenthesised E)
  unfolding grammar.parenthesised
  parenthesised_moves = tok R alike (λ t u a _. then_moves R g (λ e. past R alike _ (λ _ _. gives_same R _ _ (ap (λ (n : ℕ). moved n e) a.at))))

  argument_moves : Moves R (grammar.argument E) (grammar.argument E)
  unfolding grammar.argument
  argument_moves = past R alike _ (λ _ _. g)

  one_argument_moves : (o : PrismOp) (at : ℕ) → Moves R (grammar.one_argument E o at) (grammar.one_argument E o at)
  unfolding grammar.one_argument
  one_argument_moves o at = past R alike _ (λ _ _. then_moves R g (λ e. past R alike _ (λ _ _. gives_moves R _)))

  two_arguments_moves : (o : PrismOp) (at : ℕ) → Moves R (grammar.two_arguments E o at) (grammar.two_arguments E o at)
  unfolding grammar.two_arguments
  two_arguments_moves o at = past R alike _ (λ _ _. then_moves R g (λ a. then_moves R argument_moves (λ b. past R alike _ (λ _ _. gives_moves R _))))

  arguments_moves : (o : Option PrismOp) (at : ℕ) → Moves R (grammar.arguments E o at) (grammar.arguments E o at)
  arguments_moves None at = never_moves R
  arguments_moves (Some O.Mod) at = two_arguments_moves O.Mod at
  arguments_moves (Some o) at = one_argument_moves o at

  name_or_call_moves : Moves R (grammar.name_or_call E) (grammar.name_or_call E)
  unfolding grammar.name_or_call
  name_or_call_moves = tok R alike (λ t u a e.
      subst (λ (l : Lexeme). Moves R (gives (Name t.at t.text) or grammar.arguments E (function_of t.text) t.at) (gives (Name l.at l.text) or grammar.arguments E (function_of l.text) l.at))
      (the_same t u a (ap is_named e)) (or_moves R (gives_moves R _) (arguments_moves (function_of t.text) t.at)))

  -- what stands behind min or max
  abbrev extremes : PrismOp → ℕ → Lang Expression
  extremes o at = do
    symbol S.LeftParenthesis
    a ← E
    b ← grammar.argument E
    e ← folding (λ x y. Two at o x y) (grammar.argument E) (Two at o a b)
    symbol S.RightParenthesis
    gives e

  extremes_moves : (o : PrismOp) (at : ℕ) → Moves R (extremes o at) (extremes o at)
  extremes_moves o at =
      past R alike _ (λ _ _. then_moves R g (λ a. then_moves R argument_moves (λ b. then_moves R (folding_moves R _ _ argument_moves) (λ e. past R alike _ (λ _ _. gives_moves R _)))))

  extremum_moves : (r : Reserved) (o : PrismOp) → Moves R (grammar.extremum E r o) (grammar.extremum E r o)
  unfolding grammar.extremum
  extremum_moves r o = tok R alike (λ t u a e. subst (λ (n : ℕ). Moves R (extremes o t.at) (extremes o n)) a.at (extremes_moves o t.at))

  pub prim_moves : Moves R (grammar.prim E) (grammar.prim E)
  unfolding grammar.prim
  prim_moves =
      or_moves R (truth_moves R alike _ _) (or_moves R (truth_moves R alike _ _) (or_moves R (token_with_moves R alike number_at number_same) (or_moves R name_or_call_moves (or_moves R parenthesised_moves
      (or_moves R (extremum_moves _ _) (extremum_moves _ _))))))

  level_moves : (n : ℕ) → Moves R (grammar.level E n) (grammar.level E n)
  level_moves zero = prim_moves
  level_moves (suc n) = over_prefix_moves R alike (prefix_at n) n (grammar.level E n) (level_moves n)

  choice_moves : (c : Expression) → Moves R (grammar.choice E c) (grammar.choice E c)
  unfolding grammar.choice
  choice_moves c = past R alike _ (λ _ _. then_moves R g (λ a. past R alike _ (λ _ _. then_moves R g (λ b. gives_moves R _))))

  conditional_moves : Moves R (grammar.conditional E) (grammar.conditional E)
  unfolding grammar.conditional
  conditional_moves = then_moves R (level_moves 10) (λ c. or_moves R (gives_moves R _) (choice_moves c))

module _ (R : Lexeme → Lexeme → Type 0) (alike : (t u : Lexeme) → R t u → Alike t u) where
  expr_at_moves : (n : ℕ) → Moves R (grammar.expr_at n) (grammar.expr_at n)
  expr_at_moves zero = record { moves = λ w v e r p. absurd p }
  expr_at_moves (suc n) = record { moves = λ w v e r p. (conditional_moves R alike (grammar.expr_at n) (expr_at_moves n)).moves w v e r p }

  pub expr_moves : Moves R grammar.expr grammar.expr
  unfolding grammar.expr
  expr_moves = record { moves = λ w v e r p. (p.0, (expr_at_moves p.0).moves w v e r p.1) }

  pub int_too_moves : (b : Bool) → Moves R (grammar.int_too b) (grammar.int_too b)
  int_too_moves false = never_moves R
  int_too_moves true = past R alike _ (λ _ _. gives_moves R _)

-- ---- files

module _ (R : Lexeme → Lexeme → Type 0) (alike : (t u : Lexeme) → R t u → Alike t u) (E F : Lang Expression) (V : Lang (Option Range)) (g : Moves R E F) (h : Moves R V V) where
  const_item_moves : Moves R (grammar.const_item E V) (grammar.const_item F V)
  unfolding grammar.const_item grammar.const_type
  const_item_moves =
      past R alike _ (λ _ _. then_moves R (or_moves R (gives_moves R _) (or_moves R (past R alike _ (λ _ _. gives_moves R _)) (or_moves R (past R alike _ (λ _ _. gives_moves R _)) (past R alike _ (λ _ _. gives_moves R _))))) (λ ty.
      then_moves R (name_moves R alike) (λ x. then_moves R (optional_moves R (past R alike _ (λ _ _. g))) (λ value. past R alike _ (λ _ _. gives_moves R _)))))

  range_moves : Moves R (grammar.range E V) (grammar.range F V)
  unfolding grammar.range
  range_moves = past R alike _ (λ _ _. then_moves R g (λ _. past R alike _ (λ _ _. then_moves R g (λ _. past R alike _ (λ _ _. gives_moves R _)))))

  var_moves : Moves R (grammar.var E V) (grammar.var F V)
  unfolding grammar.var
  var_moves =
      then_moves R (name_moves R alike) (λ _. past R alike _ (λ _ _.
      then_moves R (or_moves R (then_moves R range_moves (λ _. gives_moves R _)) (or_moves R (past R alike _ (λ _ _. gives_moves R _)) h)) (λ _.
      then_moves R (optional_moves R (past R alike _ (λ _ _. g))) (λ _. past R alike _ (λ _ _. gives_moves R _)))))

  global_item_moves : Moves R (grammar.global_item E V) (grammar.global_item F V)
  unfolding grammar.global_item
  global_item_moves = past R alike _ (λ _ _. var_moves)

  formula_item_moves : Moves R (grammar.formula_item E V) (grammar.formula_item F V)
  unfolding grammar.formula_item
  formula_item_moves = past R alike _ (λ _ _. then_moves R (name_moves R alike) (λ _. past R alike _ (λ _ _. then_moves R g (λ _. past R alike _ (λ _ _. gives_moves R _)))))

  label_item_moves : Moves R (grammar.label_item E V) (grammar.label_item F V)
  unfolding grammar.label_item
  label_item_moves = past R alike _ (λ _ _. then_moves R (quoted_moves R alike) (λ _. past R alike _ (λ _ _. then_moves R g (λ _. past R alike _ (λ _ _. gives_moves R _)))))

  write_moves : Moves R (grammar.write E V) (grammar.write F V)
  unfolding grammar.write
  write_moves =
      past R alike _ (λ _ _. then_moves R (name_moves R alike) (λ _. past R alike _ (λ _ _. past R alike _ (λ _ _. then_moves R g (λ _. past R alike _ (λ _ _. gives_moves R _))))))

  update_moves : Moves R (grammar.update E V) (grammar.update F V)
  unfolding grammar.update
  update_moves = or_moves R (past R alike _ (λ _ _. gives_moves R _)) (then_moves R write_moves (λ _. folding_moves R _ _ (past R alike _ (λ _ _. write_moves))))

  weighted_moves : Moves R (grammar.weighted E V) (grammar.weighted F V)
  unfolding grammar.weighted
  weighted_moves = then_moves R g (λ _. past R alike _ (λ _ _. then_moves R update_moves (λ _. gives_moves R _)))

  updates_moves : Moves R (grammar.updates E V) (grammar.updates F V)
  unfolding grammar.updates
  updates_moves =
      or_moves R (then_moves R update_moves (λ _. gives_moves R _)) (then_moves R weighted_moves (λ _. folding_moves R _ _ (past R alike _ (λ _ _. weighted_moves))))

  command_moves : Moves R (grammar.command E V) (grammar.command F V)
  unfolding grammar.command
  command_moves =
      past R alike _ (λ _ _. then_moves R (optional_moves R (name_moves R alike)) (λ _. past R alike _ (λ _ _. then_moves R g (λ _.
      past R alike _ (λ _ _. then_moves R updates_moves (λ _. past R alike _ (λ _ _. gives_moves R _)))))))

  reward_moves : Moves R (grammar.reward E V) (grammar.reward F V)
  unfolding grammar.reward
  reward_moves =
      then_moves R (or_moves R (gives_moves R _) (then_moves R (past R alike _ (λ _ _. optional_moves R (name_moves R alike))) (λ _. past R alike _ (λ _ _. gives_moves R _)))) (λ _.
      then_moves R g (λ _. past R alike _ (λ _ _. then_moves R g (λ _. past R alike _ (λ _ _. gives_moves R _)))))

  rewards_item_moves : Moves R (grammar.rewards_item E V) (grammar.rewards_item F V)
  unfolding grammar.rewards_item
  rewards_item_moves =
      past R alike _ (λ _ _. then_moves R (optional_moves R (quoted_moves R alike)) (λ _. then_moves R (many_moves R reward_moves) (λ _. past R alike _ (λ _ _. gives_moves R _))))

  body_moves : (x : Named) → Moves R (grammar.body E V x) (grammar.body F V x)
  unfolding grammar.body
  body_moves x = then_moves R (many_moves R var_moves) (λ _. then_moves R (many_moves R command_moves) (λ _. gives_moves R _))

  pair_moves : Moves R (grammar.pair E V) (grammar.pair F V)
  unfolding grammar.pair
  pair_moves = then_moves R (name_moves R alike) (λ _. past R alike _ (λ _ _. then_moves R (name_moves R alike) (λ _. gives_moves R _)))

  copy_moves : (x : Named) → Moves R (grammar.copy E V x) (grammar.copy F V x)
  unfolding grammar.copy
  copy_moves x =
      past R alike _ (λ _ _. then_moves R (name_moves R alike) (λ _. past R alike _ (λ _ _. then_moves R pair_moves (λ _.
      then_moves R (folding_moves R _ _ (past R alike _ (λ _ _. pair_moves))) (λ _. past R alike _ (λ _ _. gives_moves R _))))))

  module_item_moves : Moves R (grammar.module_item E V) (grammar.module_item F V)
  unfolding grammar.module_item
  module_item_moves =
      past R alike _ (λ _ _. then_moves R (name_moves R alike) (λ x. then_moves R (or_moves R (body_moves x) (copy_moves x)) (λ _. past R alike _ (λ _ _. gives_moves R _))))

  section_moves : Moves R (grammar.section E V) (grammar.section F V)
  unfolding grammar.section
  section_moves =
      or_moves R (then_moves R const_item_moves (λ _. gives_moves R _)) (or_moves R (then_moves R global_item_moves (λ _. gives_moves R _)) (or_moves R (then_moves R formula_item_moves (λ _. gives_moves R _))
      (or_moves R (then_moves R module_item_moves (λ _. gives_moves R _)) (or_moves R (then_moves R label_item_moves (λ _. gives_moves R _)) (then_moves R rewards_item_moves (λ _. gives_moves R _))))))

  init_item_moves : Moves R (grammar.init_item E V) (grammar.init_item F V)
  unfolding grammar.init_item
  init_item_moves = past R alike _ (λ _ _. then_moves R g (λ _. past R alike _ (λ _ _. gives_moves R _)))

  init_if_moves : (o : Option Expression) → Moves R (grammar.init_if E V o) (grammar.init_if F V o)
  init_if_moves None = init_item_moves
  init_if_moves (Some e) = never_moves R

  items_moves : (f : File) → Moves R (grammar.items E V f) (grammar.items F V f)
  unfolding grammar.items
  items_moves f =
      then_moves R (folding_moves R _ _ section_moves) (λ k. or_moves R (gives_moves R _) (then_moves R (init_if_moves k.init) (λ _. folding_moves R _ _ section_moves)))

  pub file_moves : (end : ℕ) → Moves R (grammar.file_over E V end) (grammar.file_over F V end)
  unfolding grammar.file_over
  file_moves end = then_moves R (items_moves _) (λ f. past R alike _ (λ _ _. items_moves f))
