-- The expressions that stand inside no other, in each scope.
use Rattle.std.proofs.Common.{◌≡◌, ℕ, zero, suc, ◌≤◌, true, List, [], ◌∷◌, ◌++◌, Option, Some, None, refl, sym, append-nil, length, inl, inr}
use Rattle.op_trees.specs.Tree.{Truth, Name}
use Rattle.prism_lex.specs.declared.token.TokenKind.TheVariants as K
use Rattle.prism_lex.specs.declared.words.Reserved.TheVariants as W
use Rattle.prism_lex.specs.declared.symbols.Symbol.{Symbol}
use Rattle.prism_lex.specs.declared.symbols.Symbol.TheVariants as S
use Rattle.prism_lex.specs.Tokens.{Lexeme}
use Rattle.prism_tree.specs.declared.operator.PrismOp.{PrismOp}
use Rattle.prism_tree.specs.Syntax.{Expression, moved}
use Rattle.prism_tree.specs.Lang.{token, gives, folding, ◌>>=◌, ◌or◌, many}
use Rattle.prism_tree.specs.Grammar.{truth, parenthesised, name_or_call, prefix_at, prefixed, chain, over_prefix, prim, level, conditional, expr}
use Rattle.prism_tree.specs.Faults.{outer}
use Rattle.prism_exprs.specs.Scope.{expressions_of}
use Rattle.prism_exprs.proofs.Exprs.{expr-conditional}
use Rattle.prism_exprs.proofs.Outer.{early_short}

-- ---- words

over_word : (p : Option (Symbol × PrismOp)) (n : ℕ) (w : List Lexeme) (e : Expression) → level expr n w e → over_prefix p n (level expr n) w e
unfolding prefixed chain ◌>>=◌ many folding gives
over_word (Some p) n w e h = ([], [], w, refl, refl, (e, w, [], sym (append-nil w), h, (refl, refl)))
over_word None n w e h = (e, w, [], sym (append-nil w), h, ([], [], [], refl, refl, (refl, refl)))

-- an operand is a word of each level
level_of : (n : ℕ) (w : List Lexeme) (e : Expression) → prim expr w e → level expr n w e
level_of zero w e h = h
level_of (suc n) w e h = over_word (prefix_at n) n w e (level_of n w e h)

-- an operand is an expression
pub expr_of : (w : List Lexeme) (e : Expression) → prim expr w e → expr w e
unfolding conditional ◌>>=◌ ◌or◌ gives
expr_of w e h = expr-conditional.from w e (e, w, [], sym (append-nil w), level_of 10 w e h, inl (refl, refl))

pub true_word : (t : Lexeme) → t.kind ≡ K.Word W.True → expr (t ∷ []) (Truth t.at true)
unfolding prim truth token ◌>>=◌ ◌or◌ gives
true_word t h = expr_of _ _ (inl (t, t ∷ [], [], refl, (refl, h), (refl, refl)))

pub name_word : (t : Lexeme) → t.kind ≡ K.Ident → expr (t ∷ []) (Name t.at t.text)
unfolding prim name_or_call token ◌>>=◌ ◌or◌ gives
name_word t h = expr_of _ _ (inr (inr (inr (inl (t, t ∷ [], [], refl, (refl, h), inl (refl, refl))))))

pub parenthesis_word : (o c : Lexeme) (w : List Lexeme) (e : Expression) → o.kind ≡ K.Symbol S.LeftParenthesis → c.kind ≡ K.Symbol S.RightParenthesis → expr w e → expr (o ∷ (w ++ c ∷ [])) (moved o.at e)
unfolding prim parenthesised token ◌>>=◌ ◌or◌ gives
parenthesis_word o c w e h k p = expr_of _ _ (inr (inr (inr (inr (inl (o, o ∷ [], w ++ c ∷ [], refl, (refl, h), (e, w, c ∷ [], refl, p, (c, c ∷ [], [], refl, (refl, k), (refl, refl)))))))))

-- ---- in a scope

pub short_word : (c : Option (List Lexeme)) (w : List Lexeme) (e : Expression) → length w ≤ 1024 → expr w e → expressions_of c w e
unfolding outer
short_word None w e h p = p
short_word (Some us) w e h p = (p, early_short us w h)

pub expr_of_scope : (c : Option (List Lexeme)) (w : List Lexeme) (e : Expression) → expressions_of c w e → expr w e
unfolding outer
expr_of_scope None w e p = p
expr_of_scope (Some us) w e p = p.0
