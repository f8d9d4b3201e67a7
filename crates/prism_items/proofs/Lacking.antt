-- Kinds of tokens that no word of a language holds.
use Rattle.std.proofs.Common.{◌≡◌, ℕ, zero, suc, Bool, true, false, List, [], ◌∷◌, ◌++◌, Option, Some, None, refl, sym, ap, subst, ◌∙◌, inl, inr}
use Rattle.std.specs.Prelude.{◌⊎◌}
use Rattle.prism_lex.specs.declared.token.TokenKind.{TokenKind}
use Rattle.prism_lex.specs.declared.token.TokenKind.TheVariants as K
use Rattle.prism_lex.specs.declared.words.Reserved.{Reserved}
use Rattle.prism_lex.specs.declared.words.Reserved.TheVariants as W
use Rattle.prism_lex.specs.declared.symbols.Symbol.{Symbol}
use Rattle.prism_lex.specs.declared.symbols.Symbol.TheVariants as S
use Rattle.prism_lex.specs.Tokens.{Lexeme}
use Rattle.prism_tree.specs.declared.operator.PrismOp.{PrismOp}
use Rattle.prism_tree.specs.declared.operator.PrismOp.TheVariants as O
use Rattle.prism_tree.specs.Syntax.{Expression}
use Rattle.prism_tree.specs.Lang.{Lang, token, token_with, gives, never, ◌>>=◌, ◌or◌, optional, many, folding}
use Rattle.prism_tree.specs.Grammar.{infix_of, at_level, operator_at, prefix_at, operand, chain, prefixed, over_prefix, function_of, number_of, number_at, truth, parenthesised, argument, one_argument, two_arguments, arguments, name_or_call, extremum, prim, level, choice, conditional, expr_at, expr}
use Rattle.prism_exprs.specs.Levels.{begins_prim}
use Rattle.prism_exprs.specs.Scope.{Scope, expressions}
use Rattle.prism_exprs.proofs.Exprs.{IsPrefix, prefix_is}
use Rattle.prism_items.proofs.Expressions.{expr_of_scope}

-- none of these tokens is of this kind
abbrev pub Free : TokenKind → List Lexeme → Type 0
Free k [] = Unit {0}
Free k (t ∷ ts) = (t.kind ≡ k → ⊥) × Free k ts

pub free_append : (k : TokenKind) (a b : List Lexeme) → Free k a → Free k b → Free k (a ++ b)
free_append k [] b p q = q
free_append k (t ∷ a) b p q = (p.0, free_append k a b p.1 q)

-- a token that stands among others
pub free_inside : (k : TokenKind) (a b : List Lexeme) (t : Lexeme) → Free k (a ++ t ∷ b) → t.kind ≡ k → ⊥
free_inside k [] b t p = p.0
free_inside k (s ∷ a) b t p = free_inside k a b t p.1

pub record Lacks {A : Type 0} (k : TokenKind) (L : Lang A) : Type 0 where
  pub free : (w : List Lexeme) (x : A) → L w x → Free k w

-- ---- by the words of the notation

one_free : (k : TokenKind) (w : List Lexeme) (t : Lexeme) → w ≡ t ∷ [] → (t.kind ≡ k → ⊥) → Free k w
one_free k w t e h = let F : List Lexeme → Type 0 = λ u. Free k u in subst F (sym e) (h, tt)

pub token_lacks : (k j : TokenKind) → (j ≡ k → ⊥) → Lacks k (token j)
unfolding token
token_lacks k j h = record { free = λ w t p. one_free k w t p.0 (λ e. h (sym p.1 ∙ e)) }

pub meaning_lacks : {A : Type 0} (k : TokenKind) (meaning : Lexeme → Option A) → ((t : Lexeme) (a : A) → meaning t ≡ Some a → t.kind ≡ k → ⊥) → Lacks k (token_with meaning)
unfolding token_with
meaning_lacks k meaning h = record { free = λ w a p. one_free k w p.0 p.1 (h p.0 a p.2) }

pub gives_lacks : {A : Type 0} (k : TokenKind) (a : A) → Lacks k (gives a)
unfolding gives
gives_lacks k a = record { free = λ w b p. let F : List Lexeme → Type 0 = λ u. Free k u in subst F (sym p.0) tt }

pub never_lacks : {A : Type 0} (k : TokenKind) → Lacks {A = A} k never
unfolding never
never_lacks k = record { free = λ w a p. absurd p }

pub then_lacks : {A B : Type 0} (k : TokenKind) {L : Lang A} (M : A → Lang B) → Lacks k L → ((x : A) → Lacks k (M x)) → Lacks k (L >>= M)
unfolding ◌>>=◌
then_lacks k M l m = record {
  free = λ w y h.
      let F : List Lexeme → Type 0 = λ u. Free k u in
      subst F (sym h.3) (free_append k h.1 h.2 (l.free h.1 h.0 h.4) ((m h.0).free h.2 y h.5));
}

pub or_lacks : {A : Type 0} (k : TokenKind) {L M : Lang A} → Lacks k L → Lacks k M → Lacks k (L or M)
unfolding ◌or◌
or_lacks {A} k {L} {M} l m = record { free = go }
  where
    go : (w : List Lexeme) (x : A) → L w x ⊎ M w x → Free k w
    go w x (inl h) = l.free w x h
    go w x (inr h) = m.free w x h

pub many_lacks : {A : Type 0} (k : TokenKind) {L : Lang A} → Lacks k L → Lacks k (many L)
unfolding many
many_lacks {A} k {L} l = record { free = λ w xs. go xs w }
  where
    go : (xs : List A) (w : List Lexeme) → many L w xs → Free k w
    go [] w h = let F : List Lexeme → Type 0 = λ u. Free k u in subst F (sym h) tt
    go (x ∷ xs) w h = let F : List Lexeme → Type 0 = λ u. Free k u in subst F (sym h.2) (free_append k h.0 h.1 (l.free h.0 x h.3) (go xs h.1 h.4))

pub folding_lacks : {S A : Type 0} (k : TokenKind) (f : S → A → S) {L : Lang A} (s : S) → Lacks k L → Lacks k (folding f L s)
unfolding folding
folding_lacks k f s l = then_lacks k _ (many_lacks k l) (λ xs. gives_lacks k _)

pub optional_lacks : {A : Type 0} (k : TokenKind) {L : Lang A} → Lacks k L → Lacks k (optional L)
optional_lacks k l = or_lacks k (gives_lacks k None) (then_lacks k _ l (λ x. gives_lacks k _))

-- ---- in expressions

-- a kind that stands in no expression
pub record IsStrange (k : TokenKind) : Type 0 where
  pub begins : begins_prim k ≡ false
  pub joins : infix_of k ≡ None
  pub denies : K.Symbol S.Not ≡ k → ⊥
  pub closes : K.Symbol S.RightParenthesis ≡ k → ⊥
  pub separates : K.Symbol S.Comma ≡ k → ⊥
  pub asks : K.Symbol S.Question ≡ k → ⊥
  pub tells : K.Symbol S.Colon ≡ k → ⊥

no_begin : (k j : TokenKind) → IsStrange k → begins_prim j ≡ true → j ≡ k → ⊥
no_begin k j s b e =
    let f : begins_prim j ≡ false = ap begins_prim e ∙ s.begins in
    absurd cc

no_number : (j : TokenKind) (t : Lexeme) (a : Expression) → number_of t j ≡ Some a → begins_prim j ≡ true
no_number (K.Number d) t a h = refl
no_number j t a h = absurd cc

module _ (k : TokenKind) (s : IsStrange k) (E : Lang Expression) (e : Lacks k E) where
  begin_lacks : (j : TokenKind) → begins_prim j ≡ true → Lacks k (token j)
  begin_lacks j b = token_lacks k j (no_begin k j s b)

  truth_lacks : (r : Reserved) (b : Bool) → begins_prim (K.Word r) ≡ true → Lacks k (truth r b)
  unfolding truth
  truth_lacks r b h = then_lacks k _ (begin_lacks (K.Word r) h) (λ t. gives_lacks k _)

  number_lacks : Lacks k (token_with number_at)
  number_lacks = meaning_lacks k number_at (λ t a h. no_begin k t.kind s (no_number t.kind t a h))

  parenthesised_lacks : Lacks k (parenthesised E)
  unfolding parenthesised
  parenthesised_lacks = then_lacks k _ (begin_lacks (K.Symbol S.LeftParenthesis) refl) (λ t. then_lacks k _ e (λ a. then_lacks k _ (token_lacks k _ s.closes) (λ c. gives_lacks k _)))

  argument_lacks : Lacks k (argument E)
  unfolding argument
  argument_lacks = then_lacks k _ (token_lacks k _ s.separates) (λ t. e)

  one_argument_lacks : (o : PrismOp) (at : ℕ) → Lacks k (one_argument E o at)
  unfolding one_argument
  one_argument_lacks o at = then_lacks k _ (begin_lacks (K.Symbol S.LeftParenthesis) refl) (λ t. then_lacks k _ e (λ a. then_lacks k _ (token_lacks k _ s.closes) (λ c. gives_lacks k _)))

  two_arguments_lacks : (o : PrismOp) (at : ℕ) → Lacks k (two_arguments E o at)
  unfolding two_arguments
  two_arguments_lacks o at = then_lacks k _ (begin_lacks (K.Symbol S.LeftParenthesis) refl) (λ t. then_lacks k _ e (λ a. then_lacks k _ argument_lacks (λ b. then_lacks k _ (token_lacks k _ s.closes) (λ c. gives_lacks k _))))

  arguments_lacks : (f : Option PrismOp) (at : ℕ) → Lacks k (arguments E f at)
  arguments_lacks None at = never_lacks k
  arguments_lacks (Some O.Mod) at = two_arguments_lacks O.Mod at
  arguments_lacks (Some o) at = one_argument_lacks o at

  name_lacks : Lacks k (name_or_call E)
  unfolding name_or_call
  name_lacks = then_lacks k _ (begin_lacks K.Ident refl) (λ t. or_lacks k (gives_lacks k _) (arguments_lacks (function_of t.text) t.at))

  extremum_lacks : (r : Reserved) (o : PrismOp) → begins_prim (K.Word r) ≡ true → Lacks k (extremum E r o)
  unfolding extremum
  extremum_lacks r o h =
      then_lacks k _ (begin_lacks (K.Word r) h) (λ t. then_lacks k _ (begin_lacks (K.Symbol S.LeftParenthesis) refl) (λ u. then_lacks k _ e (λ a. then_lacks k _ argument_lacks (λ b.
      then_lacks k _ (folding_lacks k _ _ argument_lacks) (λ x. then_lacks k _ (token_lacks k _ s.closes) (λ c. gives_lacks k _))))))

  prim_lacks : Lacks k (prim E)
  unfolding prim
  prim_lacks =
      or_lacks k (truth_lacks W.True true refl) (or_lacks k (truth_lacks W.False false refl) (or_lacks k number_lacks (or_lacks k name_lacks (or_lacks k parenthesised_lacks
      (or_lacks k (extremum_lacks W.Min O.Min refl) (extremum_lacks W.Max O.Max refl))))))

  no_operator : (n : ℕ) (t : Lexeme) (o : PrismOp) → operator_at n t ≡ Some o → t.kind ≡ k → ⊥
  no_operator n t o h g =
      let f : operator_at n t ≡ None = ap (λ (j : TokenKind). at_level n (infix_of j)) g ∙ ap (at_level n) s.joins in
      absurd cc

  chain_lacks : (n : ℕ) (L : Lang Expression) → Lacks k L → Lacks k (chain n L)
  unfolding chain operand
  chain_lacks n L l = then_lacks k _ l (λ a. folding_lacks k _ _ (then_lacks k _ (meaning_lacks k (operator_at n) (no_operator n)) (λ o. then_lacks k _ l (λ b. gives_lacks k _))))

  no_minus : K.Symbol S.Minus ≡ k → ⊥
  no_minus h =
      let f : ◌≡◌ {A = Option (ℕ × PrismOp)} (infix_of (K.Symbol S.Minus)) None = ap infix_of h ∙ s.joins in
      absurd cc

  no_sign : (n : ℕ) (p : Symbol × PrismOp) → IsPrefix n p → K.Symbol p.0 ≡ k → ⊥
  no_sign n p (IsPrefix.of_minus f g) h = no_minus (ap (λ (q : Symbol × PrismOp). K.Symbol q.0) (sym g) ∙ h)
  no_sign n p (IsPrefix.of_not f g) h = s.denies (ap (λ (q : Symbol × PrismOp). K.Symbol q.0) (sym g) ∙ h)

  over_lacks : (p : Option (Symbol × PrismOp)) (n : ℕ) (L : Lang Expression) → prefix_at n ≡ p → Lacks k L → Lacks k (over_prefix p n L)
  unfolding prefixed
  over_lacks (Some p) n L h l = then_lacks k _ (many_lacks k (token_lacks k _ (no_sign n p (prefix_is n p h)))) (λ ts. then_lacks k _ l (λ a. gives_lacks k _))
  over_lacks None n L h l = chain_lacks n L l

  level_lacks : (n : ℕ) → Lacks k (level E n)
  level_lacks zero = prim_lacks
  level_lacks (suc n) = over_lacks (prefix_at n) n (level E n) refl (level_lacks n)

  conditional_lacks : Lacks k (conditional E)
  unfolding conditional choice
  conditional_lacks =
      then_lacks k _ (level_lacks 10) (λ c. or_lacks k (gives_lacks k _) (then_lacks k _ (token_lacks k _ s.asks) (λ q. then_lacks k _ e (λ a. then_lacks k _ (token_lacks k _ s.tells) (λ t. then_lacks k _ e (λ b. gives_lacks k _))))))

at_lacks : (k : TokenKind) → IsStrange k → (n : ℕ) → Lacks k (expr_at n)
at_lacks k s zero = record { free = λ w x p. absurd p }
at_lacks k s (suc n) = record { free = λ w x. (conditional_lacks k s (expr_at n) (at_lacks k s n)).free w x }

pub expr_lacks : (k : TokenKind) → IsStrange k → Lacks k expr
unfolding expr
expr_lacks k s = record { free = λ w x p. (at_lacks k s p.0).free w x p.1 }

pub expressions_lack : (k : TokenKind) → IsStrange k → (s : Scope) → Lacks k (expressions s)
expressions_lack k i s = record { free = λ w x p. (expr_lacks k i).free w x (expr_of_scope s.counted w x p) }

pub prime_strange : IsStrange (K.Symbol S.Prime)
prime_strange = record { begins = refl; joins = refl; denies = λ e. cc; closes = λ e. cc; separates = λ e. cc; asks = λ e. cc; tells = λ e. cc }

pub module_strange : IsStrange (K.Word W.Module)
module_strange = record { begins = refl; joins = refl; denies = λ e. cc; closes = λ e. cc; separates = λ e. cc; asks = λ e. cc; tells = λ e. cc }
