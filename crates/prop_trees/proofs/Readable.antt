-- Pieces whose text has their tokens, each of which the grammar reads as the piece.
use Rattle.std.proofs.Common.{◌≡◌, ℕ, Bool, true, false, cond, List, [], ◌∷◌, ◌++◌, refl, sym, ap, ap₂, subst, ◌∙◌, append_assoc, arith, inl, inr}
use Rattle.std.specs.Prelude.{◌||◌, codes, if◌then◌else◌}
use Rattle.std.proofs.lemmas.List.{map-append}
use Rattle.std.proofs.lemmas.Bool.Decides.{nat_tests}
use Rattle.basics.specs.Booleans.{first_true}
use Rattle.op_trees.specs.Tree.{Truth, Number, Name, One, Two, Three, AllNames, AllNumbers}
use Rattle.op_trees.specs.Names.{HasOperands}
use Rattle.prism_lex.specs.declared.automaton.State.TheVariants.{Start}
use Rattle.prism_lex.specs.declared.token.TokenKind.{TokenKind}
use Rattle.prism_lex.specs.declared.token.TokenKind.TheVariants as K
use Rattle.prism_lex.specs.declared.words.Reserved.TheVariants as W
use Rattle.prism_lex.specs.declared.symbols.Symbol.TheVariants as S
use Rattle.prism_lex.specs.Automaton.{accepts, after, is_letter}
use Rattle.prism_lex.specs.Tokens.{is_name}
use Rattle.prism_lex.proofs.Shapes.{quoted_state, number_accepted}
use Rattle.prism_tree.specs.declared.operator.PrismOp.{PrismOp}
use Rattle.prism_tree.specs.declared.operator.PrismOp.TheVariants as O
use Rattle.prism_tree.specs.Operators.{arity}
use Rattle.prism_tree.specs.Syntax.{Expression}
use Rattle.frac_core.specs.Text.{number_text}
use Rattle.prism_print.specs.Text.{is_function, is_node}
use Rattle.frac_core.specs.Decimal.{IsLiteral}
use Rattle.prism_print.proofs.Stands.{Plain, Stands}
use Rattle.prism_print.proofs.Pieces.{Piece, printed, blank, bytes_of, text, mark, operator_kind, sign, spaced, within, called, pieces}
use Rattle.prism_print.proofs.Lexed.{Spaced}
use Rattle.prism_print.proofs.Neat.{Sound, accepted_sound, name_accepted, true_kind, false_kind, space_calm, closed_stands, within_sound, sign_stands, spaced_sound, called_sound, one_sound, literal_worth}
use Rattle.prop_grammar.specs.Grammar.{name_kind, has_quotes}
use Rattle.prop_trees.specs.Printable.{IsWord}
use Rattle.prop_trees.proofs.Lexing.{lexed_kind, as_lexed, lexed, NoneQuoted, none_both}

pub record Readable (ps : List Piece) : Type 0 where
  pub sound : Sound (lexed ps)
  pub none : NoneQuoted ps

sound_as : (ps qs : List Piece) → ps ≡ qs → Sound qs → Sound ps
sound_as ps qs e h = let F : List Piece → Type 0 = λ u. Sound u in subst F (sym e) h

-- ---- in parentheses, and between blanks

lexed_within : (b : Bool) (ps : List Piece) → lexed (within b ps) ≡ within b (lexed ps)
lexed_within false ps = refl
lexed_within true ps = ap (λ (u : List Piece). mark S.LeftParenthesis ∷ u) (map-append as_lexed ps (mark S.RightParenthesis ∷ []))

none_within : (b : Bool) (ps : List Piece) → NoneQuoted ps → NoneQuoted (within b ps)
none_within false ps n = n
none_within true ps n = (refl, none_both ps (mark S.RightParenthesis ∷ []) n (refl, tt))

pub within_readable : (b : Bool) (ps : List Piece) → Readable ps → Readable (within b ps)
within_readable b ps h = record {
  sound = sound_as _ _ (lexed_within b ps) (within_sound b (lexed ps) h.sound);
  none = none_within b ps h.none;
}

gap_sound : (qs rs : List Piece) → Sound qs → Sound rs → Sound (qs ++ (blank (codes " ") ∷ rs))
gap_sound qs rs f g = λ ps s c.
    let r = g ps s c in
    let l = f (blank (codes " ") ∷ (rs ++ ps)) (refl, r.0) (space_calm _) in
    let F : List Piece → Type 0 = λ u. Spaced u × Plain (text u) in
    subst F (sym (append_assoc qs (blank (codes " ") ∷ rs) ps)) l

-- one behind another
pub gap_readable : (qs rs : List Piece) → Readable qs → Readable rs → Readable (qs ++ (blank (codes " ") ∷ rs))
gap_readable qs rs f g = record {
  sound = sound_as _ _ (map-append as_lexed qs (blank (codes " ") ∷ rs)) (gap_sound (lexed qs) (lexed rs) f.sound g.sound);
  none = none_both qs (blank (codes " ") ∷ rs) f.none g.none;
}

-- one behind another, and a token with blanks between them
pub spaced_readable : (k : TokenKind) (w : List ℕ) (qs rs : List Piece) → lexed_kind k w ≡ k → name_kind k ≡ k → ((rest : List ℕ) → Stands k w (32 ∷ rest)) → Readable qs → Readable rs → Readable (qs ++ spaced (printed k w) rs)
spaced_readable k w qs rs e n h f g = record {
  sound = sound_as _ _ (map-append as_lexed qs (spaced (printed k w) rs) ∙ ap (λ (u : TokenKind). lexed qs ++ spaced (printed u w) (lexed rs)) e)
      (spaced_sound k w (lexed qs) (lexed rs) h f.sound g.sound);
  none = none_both qs (spaced (printed k w) rs) f.none (n, g.none);
}

-- ---- operators

sign_lexed : (o : PrismOp) → as_lexed (sign o) ≡ sign o
sign_lexed O.Floor = refl
sign_lexed o = refl

kind_lexed : (o : PrismOp) → is_function o ≡ false → lexed_kind (operator_kind o) (bytes_of (sign o)) ≡ operator_kind o
kind_lexed O.Floor h = refl
kind_lexed o h = refl

none_sign : (o : PrismOp) → name_kind (operator_kind o) ≡ operator_kind o
none_sign O.Floor = refl
none_sign o = refl

lexed_called : (o : PrismOp) (ps qs : List Piece) → lexed (called o ps qs) ≡ called o (lexed ps) (lexed qs)
lexed_called o ps qs = simp (map-append, sign_lexed)

none_called : (o : PrismOp) (ps qs : List Piece) → NoneQuoted ps → NoneQuoted qs → NoneQuoted (called o ps qs)
none_called o ps qs n m =
    let back = none_both qs (mark S.RightParenthesis ∷ []) m (refl, tt) in
    (none_sign o, (refl, none_both ps (mark S.Comma ∷ blank (codes " ") ∷ (qs ++ mark S.RightParenthesis ∷ [])) n (refl, back)))

one_readable : (o : PrismOp) (b : Bool) (ps : List Piece) → arity o ≡ 1 → Readable ps → Readable (sign o ∷ within (is_function o || b) ps)
one_readable o b ps h f = record {
  sound = sound_as _ _ (ap₂ (λ (u : Piece) (us : List Piece). u ∷ us) (sign_lexed o) (lexed_within (is_function o || b) ps)) (one_sound o b (lexed ps) h f.sound);
  none = (none_sign o, none_within (is_function o || b) ps f.none);
}

two_readable : (o : PrismOp) (x y t : Bool) (qs rs : List Piece) → is_function o ≡ t → Readable qs → Readable rs → Readable (cond t (called o qs rs) (within x qs ++ spaced (sign o) (within y rs)))
two_readable o x y true qs rs e f g = record {
  sound = sound_as _ _ (lexed_called o qs rs) (called_sound o (lexed qs) (lexed rs) e f.sound g.sound);
  none = none_called o qs rs f.none g.none;
}
two_readable o x y false qs rs e f g =
    spaced_readable (operator_kind o) _ (within x qs) (within y rs) (kind_lexed o e) (none_sign o) (λ rest. sign_stands o (32 ∷ rest) refl (λ _. space_calm rest))
    (within_readable x qs f) (within_readable y rs g)

-- ---- names

-- a name begins with no quote
no_quotes : (x : List ℕ) → is_name x ≡ true → has_quotes x ≡ false
no_quotes [] h = refl
no_quotes (b ∷ bs) h = let l : is_letter b ≡ true = first_true (is_letter b) _ h in grind (arith, nat_tests)

name_readable : (x : List ℕ) → IsWord x → Readable (printed K.Ident x ∷ [])
name_readable x (inl h) = record {
  sound = sound_as _ _ (ap (λ (b : Bool). printed (if b then K.Quoted else K.Ident) x ∷ []) (no_quotes x h.0)) (accepted_sound K.Ident x h (name_accepted x h.0));
  none = (refl, tt);
}
name_readable x (inr h) = record {
  sound = sound_as _ _ (ap (λ (b : Bool). printed (if b then K.Quoted else K.Ident) x ∷ []) (ap has_quotes h.1))
      (accepted_sound K.Quoted x h (ap accepts (quoted_state x h.0 h.1 h.2)));
  none = (refl, tt);
}

-- ---- trees

pub tree_readable : (e : Expression) → AllNumbers IsLiteral e → HasOperands arity e → AllNames IsWord e → Readable (pieces e)
tree_readable (Truth at true) l p n = record { sound = accepted_sound (K.Word W.True) (codes "true") true_kind refl; none = (refl, tt) }
tree_readable (Truth at false) l p n = record { sound = accepted_sound (K.Word W.False) (codes "false") false_kind refl; none = (refl, tt) }
tree_readable (Number at d) l p n =
    let h = literal_worth d l in
    record { sound = accepted_sound (K.Number d) (number_text d) h (number_accepted (after Start (number_text d)) h.number); none = (refl, tt) }
tree_readable (Name at x) l p n = name_readable x n
tree_readable (One at o a) l p n = one_readable o (is_node a) (pieces a) p.0 (tree_readable a l p.1 n)
tree_readable (Two at o a b) l p n =
    two_readable o (is_node a) (is_node b) (is_function o) (pieces a) (pieces b) refl (tree_readable a l.0 p.1 n.0) (tree_readable b l.1 p.2 n.1)
tree_readable (Three at o a b c) l p n =
    let f = within_readable (is_node a) (pieces a) (tree_readable a l.0 p.1 n.0) in
    let g = within_readable (is_node b) (pieces b) (tree_readable b l.1 p.2 n.1) in
    let h = within_readable (is_node c) (pieces c) (tree_readable c l.2 p.3 n.2) in
    spaced_readable (K.Symbol S.Question) _ (within (is_node a) (pieces a)) _ refl refl (λ rest. closed_stands S.Question (32 ∷ rest) refl) f
    (spaced_readable (K.Symbol S.Colon) _ (within (is_node b) (pieces b)) _ refl refl (λ rest. closed_stands S.Colon (32 ∷ rest) refl) g h)
