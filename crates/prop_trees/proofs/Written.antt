-- The pieces of properties spell them.
use Rattle.std.proofs.Common.{◌≡◌, ℕ, List, [], ◌∷◌, ◌++◌, length, Option, Some, None, refl, sym, ap, ap₂, ◌∙◌}
use Rattle.std.specs.Prelude.{codes, ◌&&◌, if◌then◌else◌}
use Rattle.std.specs.Option.{option_map}
use Rattle.std.specs.List.{AllZip, AllByRecursion as Each}
use Rattle.basics.specs.Each.{each_then, each_parts}
use Rattle.bridge_io.specs.declared.reason.Named.{Named}
use Rattle.op_trees.specs.Names.{HasOperands}
use Rattle.prism_lex.specs.declared.token.TokenKind.{TokenKind}
use Rattle.prism_lex.specs.declared.token.TokenKind.TheVariants as K
use Rattle.prism_lex.specs.declared.words.Reserved.{Reserved}
use Rattle.prism_lex.specs.declared.words.Reserved.TheVariants as W
use Rattle.prism_lex.specs.declared.symbols.Symbol.TheVariants as S
use Rattle.prism_lex.specs.Tokens.{Lexeme}
use Rattle.prism_tree.specs.Operators.{arity}
use Rattle.prism_tree.specs.Syntax.{Expression}
use Rattle.prism_tree.specs.Lang.{token_with, optional, many}
use Rattle.prism_tree.specs.Grammar.{expr, symbol, named, unquoted}
use Rattle.prism_tree.specs.Laws.{but_last_is}
use Rattle.prism_print.proofs.Pieces.{Piece, printed, blank, mark}
use Rattle.prism_print.proofs.Spelling.{Writes, then_writes, token_writes, token_with_writes, blank_writes, gives_writes, left_writes, right_writes, weaken, made_writes, many_none, many_one}
use Rattle.prop_grammar.specs.declared.syntax.Compare.{Compare}
use Rattle.prop_grammar.specs.declared.syntax.Compare.TheVariants as C
use Rattle.prop_grammar.specs.declared.syntax.Structure.{Structure}
use Rattle.prop_grammar.specs.Property.{Ask, greatest, least, bounded, greatest_reward, least_reward, Path, finally, globally, until, weak_until, finally_within, until_within}
use Rattle.prop_grammar.specs.Syntax.{WrittenProperty}
use Rattle.prop_grammar.specs.Grammar.{has_quotes, is_name, title_of, title, compared, question, asks, called, finally_by, until_by, plain_within, within, near_target, any_target, target, highest, lowest, compared_probability, lower_probability, probability, most_of, least_of, of_structure, named_reward, lower_reward, reward, eventually, always, strong_after, weak_after, after, path, reach, probability_query, reward_query, query, titled_query, titled, property, properties}
use Rattle.prop_grammar.specs.Faults.{operand}
use Rattle.prop_trees.specs.Trees.{Name, PrismProperty, ask_parts, path_parts, ask_with, path_with, SameAsk, SamePath}
use Rattle.prop_trees.specs.Names.{quoted}
use Rattle.prop_trees.specs.Form.{IsFinally, AsksWell}
use Rattle.prop_trees.specs.Text.{plain, structure_name, or_empty}
use Rattle.prop_trees.specs.Printable.{IsPrintableTree, IsPrintableProperty}
use Rattle.prop_trees.specs.Back.{SameExpression, with_names, names_written, SameWritten}
use Rattle.prop_trees.proofs.Parts.{word_piece, operand_pieces, steps_pieces, path_pieces, question_pieces, compare_symbol, reward_pieces, ask_pieces, query_pieces, titled_pieces, end_pieces, property_pieces, all_pieces}
use Rattle.prop_trees.proofs.Operands.{operand_writes, steps_writes, bound_writes}

-- ---- names between quotes

title_at : (t : Lexeme) (x : Name) → t.kind ≡ K.Ident → t.text ≡ quoted x → title_of t ≡ Some (named x t.at)
title_at t x k e =
    ap₂ (λ (u : TokenKind) (w : List ℕ). option_map (λ v. named (unquoted v) t.at) (if is_name u && has_quotes w then Some w else None)) k e
    ∙ ap (λ (u : Name). Some (named u t.at)) (but_last_is x 34)

title_writes : (x : Name) → Writes title (λ y. y.name ≡ x) (printed K.Ident (quoted x) ∷ [])
unfolding token_with
title_writes x = record {
  spells = λ w m. (named x m.0.at, (m.0, m.2 ∙ ap (λ (u : List Lexeme). m.0 ∷ u) m.5, title_at m.0 x m.3 m.4), refl);
}

-- ---- targets

-- an expression in its place: its nodes have their operands
abbrev HasForm : Expression → Type 0
HasForm e = HasOperands arity (plain e)

within_writes : (k e : Expression) → HasForm k → HasForm e → Writes (within expr operand) (λ p. SameExpression k p.0 × SameExpression e p.1) (steps_pieces (plain k) ++ (blank (codes " ") ∷ operand_pieces (plain e)))
unfolding within plain_within
within_writes k e h i = left_writes _ (then_writes (steps_writes (plain k) h) (λ x p. blank_writes _ (made_writes (λ y. (x, y)) (λ y q. (p, q)) (operand_writes (plain e) i))))

near_writes : (R : Option Expression × Expression → Type 0) (k e : Expression) → HasForm k → HasForm e → ((x y : Expression) → SameExpression k x → SameExpression e y → R (Some x, y))
    → Writes (target expr operand) R (mark S.AtMost ∷ (steps_pieces (plain k) ++ (blank (codes " ") ∷ operand_pieces (plain e))))
unfolding target near_target
near_writes R k e h i f = left_writes _ (token_writes (K.Symbol S.AtMost) _ (λ _ _. made_writes (λ p. (Some p.0, p.1)) (λ p q. f p.0 p.1 q.0 q.1) (within_writes k e h i)))

any_writes : (R : Option Expression × Expression → Type 0) (e : Expression) → HasForm e → ((y : Expression) → SameExpression e y → R (None, y)) → Writes (target expr operand) R (operand_pieces (plain e))
unfolding target any_target
any_writes R e h f = right_writes _ (made_writes (λ y. (None, y)) f (operand_writes (plain e) h))

-- ---- paths

abbrev FormParts : Path Expression → Type 0
FormParts p = Each (λ x. HasForm x.1) (path_parts p)

abbrev Goes : Path Expression → Path Expression → Type 0
Goes p q = SamePath SameExpression p q

eventually_writes : (p : Path Expression) (ps : List Piece) → Writes (target expr operand) (λ t. Goes p (finally_by t.0 t.1)) ps → Writes (path expr operand) (Goes p) (word_piece W.FWord ∷ ps)
unfolding path eventually
eventually_writes p ps l = left_writes _ (token_writes (K.Word W.FWord) _ (λ _ _. made_writes (λ t. finally_by t.0 t.1) (λ t q. q) l))

always_writes : (e : Expression) → HasForm e → Writes (path expr operand) (Goes (globally e)) (path_pieces (globally (plain e)))
unfolding path always
always_writes e h = right_writes _ (left_writes _ (token_writes (K.Word W.GWord) _ (λ _ _. blank_writes _ (made_writes (λ y. globally y) (λ y q. q) (operand_writes (plain e) h)))))

after_writes : (p : Path Expression) (a : Expression) (ps : List Piece) → HasForm a → ((x : Expression) → SameExpression a x → Writes (after expr operand x) (Goes p) ps) → Writes (path expr operand) (Goes p) (operand_pieces (plain a) ++ ps)
unfolding path
after_writes p a ps h f = right_writes _ (right_writes _ (then_writes (operand_writes (plain a) h) f))

strong_writes : (p : Path Expression) (x : Expression) (ps : List Piece) → Writes (target expr operand) (λ t. Goes p (until_by x t.0 t.1)) ps → Writes (after expr operand x) (Goes p) (word_piece W.UWord ∷ ps)
unfolding after strong_after
strong_writes p x ps l = left_writes _ (token_writes (K.Word W.UWord) _ (λ _ _. made_writes (λ t. until_by x t.0 t.1) (λ t q. q) l))

weak_writes : (a b x : Expression) → HasForm b → SameExpression a x → Writes (after expr operand x) (Goes (weak_until a b)) (word_piece W.WWord ∷ blank (codes " ") ∷ operand_pieces (plain b))
unfolding after weak_after
weak_writes a b x h p = right_writes _ (token_writes (K.Word W.WWord) _ (λ _ _. blank_writes _ (made_writes (λ y. weak_until x y) (λ y q. (p, q)) (operand_writes (plain b) h))))

path_writes : (p : Path Expression) → FormParts p → Writes (path expr operand) (Goes p) (path_pieces (path_with plain p))
path_writes (finally e) h = eventually_writes (finally e) _ (blank_writes _ (any_writes (λ t. Goes (finally e) (finally_by t.0 t.1)) e h.0 (λ y q. q)))
path_writes (globally e) h = always_writes e h.0
path_writes (until a b) h =
    after_writes (until a b) a _ h.0 (λ x p. blank_writes _ (strong_writes (until a b) x _
    (blank_writes _ (any_writes (λ t. Goes (until a b) (until_by x t.0 t.1)) b h.1.0 (λ y q. (p, q))))))
path_writes (weak_until a b) h = after_writes (weak_until a b) a _ h.0 (λ x p. blank_writes _ (weak_writes a b x h.1.0 p))
path_writes (finally_within k e) h =
    eventually_writes (finally_within k e) _ (near_writes (λ t. Goes (finally_within k e) (finally_by t.0 t.1)) k e h.0 h.1.0 (λ x y p q. (p, q)))
path_writes (until_within k a b) h =
    after_writes (until_within k a b) a _ h.1.0 (λ x p. blank_writes _ (strong_writes (until_within k a b) x _
    (near_writes (λ t. Goes (until_within k a b) (until_by x t.0 t.1)) k b h.0 h.1.1.0 (λ y z q r. (q, p, r)))))

reach_writes : (p : Path Expression) → IsFinally p → FormParts p → Writes (reach expr operand) (Goes p) (path_pieces (path_with plain p))
unfolding reach
reach_writes (finally e) f h = token_writes (K.Word W.FWord) _ (λ _ _. blank_writes _ (made_writes (λ y. finally y) (λ y q. q) (operand_writes (plain e) h.0)))
reach_writes (globally e) f h = absurd f
reach_writes (until a b) f h = absurd f
reach_writes (weak_until a b) f h = absurd f
reach_writes (finally_within k e) f h = absurd f
reach_writes (until_within k a b) f h = absurd f

-- ---- queries

question_writes : Writes question (λ _. Unit {0}) (mark S.Equal ∷ mark S.Question ∷ [])
unfolding question
question_writes = token_writes (K.Symbol S.Equal) _ (λ _ _. token_writes (K.Symbol S.Question) _ (λ _ _. gives_writes tt tt))

asks_writes : (r : Reserved) → Writes (asks r) (λ _. Unit {0}) (question_pieces r)
unfolding asks
asks_writes r = token_writes (K.Word r) _ (λ t _. then_writes question_writes (λ _ _. gives_writes t tt))

compared_is : (c : Compare) → compared (K.Symbol (compare_symbol c)) ≡ Some c
compared_is C.Less = refl
compared_is C.AtMost = refl
compared_is C.AtLeast = refl
compared_is C.Greater = refl

-- of a model whose reward structures have these names
module _ (rewards : List Name) where
  abbrev Asks : Ask Expression ℕ → Ask Expression Structure → Type 0
  Asks a b = SameAsk SameExpression (with_names rewards a) (names_written b)

  abbrev pieces_of : Ask Expression ℕ → List Piece
  pieces_of a = ask_pieces rewards (ask_with plain (λ i. i) a)

  highest_writes : Writes (probability expr operand) (Asks greatest) (pieces_of greatest)
  unfolding probability highest
  highest_writes = left_writes _ (then_writes (asks_writes W.Pmax) (λ _ _. gives_writes greatest tt))

  lowest_writes : Writes (probability expr operand) (Asks least) (pieces_of least)
  unfolding probability lower_probability lowest
  lowest_writes = right_writes _ (left_writes _ (then_writes (asks_writes W.Pmin) (λ _ _. gives_writes least tt)))

  compared_writes : (c : Compare) (e : Expression) → HasForm e → Writes (probability expr operand) (Asks (bounded c e)) (pieces_of (bounded c e))
  unfolding probability lower_probability compared_probability
  compared_writes c e h = right_writes _ (right_writes _ (token_writes (K.Word W.PWord) _ (λ _ _.
      token_with_writes _ (λ t. compared t.kind) (K.Symbol (compare_symbol c)) _ c (λ t k. ap compared k ∙ compared_is c) (made_writes (λ x. bounded c x) (λ x q. (refl, q)) (bound_writes (plain e) h)))))

  named_writes : (a : Ask Expression ℕ) (x : Name) (r : Reserved) → ((y : Named) → y.name ≡ x → Writes (of_structure expr operand (called y)) (Asks a) (question_pieces r)) → Writes (reward expr operand) (Asks a) (reward_pieces x r)
  unfolding reward lower_reward named_reward
  named_writes a x r f = right_writes _ (right_writes _ (token_writes (K.Word W.RWord) _ (λ _ _. token_writes (K.Symbol S.LeftBrace) _ (λ _ _.
      then_writes (title_writes x) (λ y e. token_writes (K.Symbol S.RightBrace) _ (λ _ _. f y e))))))

  most_writes : (i : ℕ) → Writes (reward expr operand) (Asks (greatest_reward i)) (pieces_of (greatest_reward i))
  unfolding of_structure most_of
  most_writes i = named_writes (greatest_reward i) (structure_name rewards i) W.Max
      (λ y e. left_writes _ (then_writes (asks_writes W.Max) (λ _ _. gives_writes (greatest_reward (called y)) (ap (λ (u : Name). Some u) (sym e)))))

  least_writes : (i : ℕ) → Writes (reward expr operand) (Asks (least_reward i)) (pieces_of (least_reward i))
  unfolding of_structure least_of
  least_writes i = named_writes (least_reward i) (structure_name rewards i) W.Min
      (λ y e. right_writes _ (then_writes (asks_writes W.Min) (λ _ _. gives_writes (least_reward (called y)) (ap (λ (u : Name). Some u) (sym e)))))

  -- ---- properties

  -- with this name, and these parts
  record Says (y : Named) (a : Ask Expression ℕ) (p : Path Expression) (w : WrittenProperty) : Type 0 where
    name : w.name ≡ Some y
    ask : Asks a w.ask
    path : Goes p w.path

  abbrev pieces_with : Ask Expression ℕ → Path Expression → List Piece
  pieces_with a p = query_pieces (pieces_of a) (path_pieces (path_with plain p))

  of_probability : (y : Named) (a : Ask Expression ℕ) (p : Path Expression) → Writes (probability expr operand) (Asks a) (pieces_of a) → FormParts p → Writes (query expr operand (Some y)) (Says y a p) (pieces_with a p)
  unfolding query probability_query
  of_probability y a p l h = left_writes _ (then_writes l (λ b q. blank_writes _ (token_writes (K.Symbol S.LeftBracket) _ (λ _ _. blank_writes _
      (then_writes (path_writes p h) (λ r s. blank_writes _ (token_writes (K.Symbol S.RightBracket) _ (λ _ _.
      gives_writes (record { name = Some y; ask = b; path = r }) (record { name = refl; ask = q; path = s })))))))))

  of_reward : (y : Named) (a : Ask Expression ℕ) (p : Path Expression) → Writes (reward expr operand) (Asks a) (pieces_of a) → IsFinally p → FormParts p → Writes (query expr operand (Some y)) (Says y a p) (pieces_with a p)
  unfolding query reward_query
  of_reward y a p l f h = right_writes _ (then_writes l (λ b q. blank_writes _ (token_writes (K.Symbol S.LeftBracket) _ (λ _ _. blank_writes _
      (then_writes (reach_writes p f h) (λ r s. blank_writes _ (token_writes (K.Symbol S.RightBracket) _ (λ _ _.
      gives_writes (record { name = Some y; ask = b; path = r }) (record { name = refl; ask = q; path = s })))))))))

  query_writes : (y : Named) (a : Ask Expression ℕ) (p : Path Expression) → AsksWell (length rewards) a p → Each (λ x. HasForm x.1) (ask_parts a) → FormParts p → Writes (query expr operand (Some y)) (Says y a p) (pieces_with a p)
  query_writes y greatest p w g h = of_probability y greatest p highest_writes h
  query_writes y least p w g h = of_probability y least p lowest_writes h
  query_writes y (bounded c e) p w g h = of_probability y (bounded c e) p (compared_writes c e g.0) h
  query_writes y (greatest_reward i) p w g h = of_reward y (greatest_reward i) p (most_writes i) w.1 h
  query_writes y (least_reward i) p w g h = of_reward y (least_reward i) p (least_writes i) w.1 h

  titled_writes : (x : Name) (a : Ask Expression ℕ) (p : Path Expression) → AsksWell (length rewards) a p → Each (λ x. HasForm x.1) (ask_parts a) → FormParts p →
      Writes (titled expr operand) (λ w. (y : Named) × (y.name ≡ x) × Says y a p w) (titled_pieces x (pieces_of a) (path_pieces (path_with plain p)))
  unfolding titled titled_query
  titled_writes x a p w g h = right_writes _ (then_writes (title_writes x) (λ y e. token_writes (K.Symbol S.Colon) _ (λ _ _. blank_writes _ (weaken (λ v q. (y, e, q)) (query_writes y a p w g h)))))

  end_writes : Writes (optional (symbol S.Semicolon)) (λ _. Unit {0}) end_pieces
  end_writes = right_writes _ (token_writes (K.Symbol S.Semicolon) _ (λ t _. blank_writes _ (gives_writes (Some t) tt)))

  property_writes : (p : PrismProperty) → IsPrintableProperty rewards p → Writes (property expr operand) (SameWritten rewards p) (property_pieces rewards p)
  unfolding property
  property_writes p h =
      let r = each_parts (λ x. IsPrintableTree (plain x.1)) (ask_parts p.ask) (path_parts p.path) h.expressions in
      let g = each_then (λ x. IsPrintableTree (plain x.1)) (λ x. HasForm x.1) (λ x i. i.operands) (ask_parts p.ask) r.0 in
      let f = each_then (λ x. IsPrintableTree (plain x.1)) (λ x. HasForm x.1) (λ x i. i.operands) (path_parts p.path) r.1 in
      then_writes (titled_writes (or_empty p.name) p.ask p.path h.asks g f) (λ w q. then_writes end_writes (λ _ _. gives_writes w (same w q)))
    where
      same : (w : WrittenProperty) → (y : Named) × (y.name ≡ or_empty p.name) × Says y p.ask p.path w → SameWritten rewards p w
      same w q = record {
        name = ap (option_map (λ x. x.name)) q.2.name ∙ ap (λ (u : Name). Some u) (q.1 ∙ ap or_empty h.named) ∙ sym h.named;
        ask = q.2.ask;
        path = q.2.path;
      }

  each_writes : (ps : List PrismProperty) → Each (IsPrintableProperty rewards) ps → Writes (many (property expr operand)) (AllZip (SameWritten rewards) ps) (all_pieces rewards ps)
  each_writes [] h = many_none (property expr operand) tt
  each_writes (p ∷ ps) h = many_one (property_writes p h.0) (each_writes ps h.1) (λ w ws q r. (q, r))

  pub properties_writes : (ps : List PrismProperty) → Each (IsPrintableProperty rewards) ps → Writes (properties expr operand) (AllZip (SameWritten rewards) ps) (all_pieces rewards ps)
  unfolding properties
  properties_writes ps h = each_writes ps h
