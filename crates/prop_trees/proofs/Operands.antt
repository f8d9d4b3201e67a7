-- The operands and the bounds of properties are spelled by their pieces.
use Rattle.std.proofs.Common.{◌≡◌, ℕ, Bool, true, false, cond, List, [], ◌∷◌, ◌++◌, Option, Some, None, refl, sym, ap, subst, ◌∙◌}
use Rattle.std.specs.Prelude.{codes, ◌||◌, is_some, not, if◌then◌else◌}
use Rattle.std.proofs.lemmas.Bool.{or_parts}
use Rattle.op_trees.specs.Tree.{Truth, Number, Name as At, One, Two, Three}
use Rattle.op_trees.specs.Names.{HasOperands}
use Rattle.prism_lex.specs.declared.token.TokenKind.{TokenKind}
use Rattle.prism_lex.specs.declared.token.TokenKind.TheVariants as K
use Rattle.prism_lex.specs.declared.symbols.Symbol.TheVariants as S
use Rattle.prism_lex.specs.Tokens.{Lexeme}
use Rattle.prism_tree.specs.declared.operator.PrismOp.{PrismOp}
use Rattle.prism_tree.specs.Operators.{arity}
use Rattle.prism_tree.specs.Syntax.{Expression, moved}
use Rattle.prism_tree.specs.Lang.{token_with}
use Rattle.prism_tree.specs.Grammar.{expr, prim, parenthesised, function_of}
use Rattle.prism_print.specs.Text.{is_node, is_function}
use Rattle.prism_print.proofs.Pieces.{Piece, printed, blank, mark, sign, spaced, within, called, pieces}
use Rattle.prism_print.proofs.Spelling.{Match, Writes, then_writes, token_writes, gives_writes, left_writes, right_writes}
use Rattle.prism_print.proofs.SpelledTrees.{Same, tree_writes, prim_writes, enclosed_writes, bare_moved}
use Rattle.prop_grammar.specs.Grammar.{bound, is_name, named_if, function_name_of, function_name}
use Rattle.prop_grammar.specs.Faults.{IsNoFunctionName, operand}
use Rattle.prop_trees.specs.Text.{is_choice, is_function_name}
use Rattle.prop_trees.proofs.Parts.{operand_pieces, probability_pieces, steps_pieces}

-- ---- operands of F, G, U and W

choice_writes : (b : Bool) (e : Expression) → HasOperands arity e → (b ≡ true → is_node e ≡ true) → Writes expr (Same e) (within b (pieces e))
choice_writes false e p h = tree_writes e p
choice_writes true e p h = let F : Bool → Type 0 = λ u. Writes expr (Same e) (within u (pieces e)) in subst F (h refl) (enclosed_writes e p)

choice_is_node : (e : Expression) → is_choice e ≡ true → is_node e ≡ true
choice_is_node (Three at o a b c) h = refl
choice_is_node e h = absurd cc

pub operand_writes : (e : Expression) → HasOperands arity e → Writes expr (Same e) (operand_pieces e)
operand_writes e p = choice_writes (is_choice e) e p (choice_is_node e)

-- ---- no name of a function alone

-- a token that is no identifier
other_kind : (k : TokenKind) (s : List ℕ) (ps : List Piece) (w : List Lexeme) → (k ≡ K.Ident → ⊥) → Match (printed k s ∷ ps) w → IsNoFunctionName w
other_kind k s ps w h m = λ t e i.
    let same : m.0 ∷ m.1 ≡ t ∷ [] = sym m.2 ∙ e in
    let first : m.0 ≡ t = cc in
    absurd (h (sym m.3 ∙ ap (λ (u : Lexeme). u.kind) first ∙ i))

-- more tokens than one
two_tokens : (j k : TokenKind) (s r : List ℕ) (ps : List Piece) (w : List Lexeme) → Match (printed j s ∷ printed k r ∷ ps) w → IsNoFunctionName w
two_tokens j k s r ps w m = λ t e i.
    let more : m.0 ∷ (m.5.0 ∷ m.5.1) ≡ t ∷ [] = ap (λ (u : List Lexeme). m.0 ∷ u) (sym m.5.2) ∙ sym m.2 ∙ e in
    absurd cc

none_of : (o : Option PrismOp) → is_some o ≡ false → o ≡ None
none_of None h = refl
none_of (Some o) h = absurd cc

name_alone : (x : List ℕ) (w : List Lexeme) → function_of x ≡ None → Match (printed K.Ident x ∷ []) w → IsNoFunctionName w
name_alone x w n m = λ t e i.
    let same : m.0 ∷ m.1 ≡ t ∷ [] = sym m.2 ∙ e in
    let first : t ≡ m.0 = cc in
    ap (λ (u : Lexeme). function_of u.text) first ∙ ap function_of m.4 ∙ n

call_one : (f b : Bool) (j : TokenKind) (s : List ℕ) (ps : List Piece) (w : List Lexeme) → not f ≡ false → Match (printed j s ∷ within (f || b) ps) w → IsNoFunctionName w
call_one true b j s ps w h m = two_tokens j _ s _ (ps ++ mark S.RightParenthesis ∷ []) w m
call_one false b j s ps w h m = absurd cc

call_two : (f : Bool) (o : PrismOp) (ps qs rs : List Piece) (w : List Lexeme) → not f ≡ false → Match (cond f (called o ps qs) rs) w → IsNoFunctionName w
call_two true o ps qs rs w h m = two_tokens _ _ _ _ (ps ++ (mark S.Comma ∷ blank (codes " ") ∷ (qs ++ mark S.RightParenthesis ∷ []))) w m
call_two false o ps qs rs w h m = absurd cc

bare_alone : (e : Expression) (w : List Lexeme) → is_node e ≡ false → is_function_name e ≡ false → Match (pieces e) w → IsNoFunctionName w
bare_alone (Truth at true) w h f m = other_kind _ _ [] w (λ i. absurd cc) m
bare_alone (Truth at false) w h f m = other_kind _ _ [] w (λ i. absurd cc) m
bare_alone (Number at d) w h f m = other_kind (K.Number d) _ [] w (λ i. absurd cc) m
bare_alone (At at x) w h f m = name_alone x w (none_of (function_of x) f) m
bare_alone (One at o a) w h f m = call_one (is_function o) (is_node a) _ _ (pieces a) w h m
bare_alone (Two at o a b) w h f m = call_two (is_function o) o (pieces a) (pieces b) (within (is_node a) (pieces a) ++ spaced (sign o) (within (is_node b) (pieces b))) w h m
bare_alone (Three at o a b c) w h f m = absurd cc

within_alone : (b : Bool) (e : Expression) (w : List Lexeme) → (b ≡ false → (is_node e ≡ false) × (is_function_name e ≡ false)) → Match (within b (pieces e)) w → IsNoFunctionName w
within_alone true e w h m = other_kind (K.Symbol S.LeftParenthesis) _ (pieces e ++ mark S.RightParenthesis ∷ []) w (λ i. absurd cc) m
within_alone false e w h m = bare_alone e w (h refl).0 (h refl).1 m

-- ---- bounds

as_operand : {P : Expression → Type 0} {ps : List Piece} → Writes (prim expr) P ps → ((w : List Lexeme) → Match ps w → IsNoFunctionName w) → Writes operand P ps
unfolding operand
as_operand l h = record { spells = λ w m. let x = l.spells w m in (x.0, (x.1, h w m), x.2) }

enclosed_prim : (e : Expression) → HasOperands arity e → Writes (prim expr) (Same e) (within true (pieces e))
unfolding prim parenthesised
enclosed_prim e p = right_writes _ (right_writes _ (right_writes _ (right_writes _ (left_writes _
    (token_writes (K.Symbol S.LeftParenthesis) _ (λ t _. then_writes (tree_writes e p) (λ x q. token_writes (K.Symbol S.RightParenthesis) _ (λ _ _. gives_writes (moved t.at x) (bare_moved t.at x ∙ q)))))))))

within_prim : (b : Bool) (e : Expression) → HasOperands arity e → (b ≡ false → is_node e ≡ false) → Writes (prim expr) (Same e) (within b (pieces e))
within_prim true e p h = enclosed_prim e p
within_prim false e p h = let F : Bool → Type 0 = λ u. Writes (prim expr) (Same e) (within u (pieces e)) in subst F (h refl) (prim_writes e p)

-- of steps
pub steps_writes : (e : Expression) → HasOperands arity e → Writes operand (Same e) (steps_pieces e)
steps_writes e p =
    let parts = λ (h : (is_node e || is_function_name e) ≡ false). or_parts (is_node e) (is_function_name e) h in
    as_operand (within_prim (is_node e || is_function_name e) e p (λ h. (parts h).0))
    (λ w m. within_alone (is_node e || is_function_name e) e w (λ h. ((parts h).0, (parts h).1)) m)

name_at : (t : Lexeme) (x : List ℕ) (o : PrismOp) → t.kind ≡ K.Ident → t.text ≡ x → function_of x ≡ Some o → function_name_of t ≡ Some (At t.at t.text)
name_at t x o k e f =
    ap (λ (u : TokenKind). if is_name u then named_if t (function_of t.text) else None) k ∙ ap (named_if t) (ap function_of e ∙ f)

function_writes : (at : ℕ) (x : List ℕ) (o : PrismOp) → function_of x ≡ Some o → Writes function_name (Same (At at x)) (printed K.Ident x ∷ [])
unfolding token_with
function_writes at x o f = record {
  spells = λ w m. (At m.0.at m.0.text, (m.0, m.2 ∙ ap (λ (u : List Lexeme). m.0 ∷ u) m.5, name_at m.0 x o m.3 m.4 f), ap (λ (u : List ℕ). At 0 u) m.4);
}

plain_bound : (e : Expression) → HasOperands arity e → is_function_name e ≡ false → Writes (bound expr operand) (Same e) (probability_pieces e)
unfolding bound
plain_bound e p f = left_writes _ (as_operand (prim_writes e p) (λ w m. within_alone (is_node e) e w (λ h. (h, f)) m))

name_bound : (at : ℕ) (x : List ℕ) (o : Option PrismOp) → function_of x ≡ o → Writes (bound expr operand) (Same (At at x)) (printed K.Ident x ∷ [])
unfolding bound
name_bound at x None f = plain_bound (At at x) tt (ap is_some f)
name_bound at x (Some o) f = right_writes _ (function_writes at x o f)

-- of a probability
pub bound_writes : (e : Expression) → HasOperands arity e → Writes (bound expr operand) (Same e) (probability_pieces e)
bound_writes (At at x) p = name_bound at x (function_of x) refl
bound_writes (Truth at b) p = plain_bound (Truth at b) p refl
bound_writes (Number at d) p = plain_bound (Number at d) p refl
bound_writes (One at o a) p = plain_bound (One at o a) p refl
bound_writes (Two at o a b) p = plain_bound (Two at o a b) p refl
bound_writes (Three at o a b c) p = plain_bound (Three at o a b c) p refl
