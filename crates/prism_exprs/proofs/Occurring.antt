-- The kinds of tokens that occur in expressions.
use Rattle.std.proofs.Common.{◌≡◌, ℕ, zero, suc, Bool, true, false, List, [], ◌∷◌, ◌++◌, Option, Some, None, refl, sym, ap, subst, ◌∙◌, inl, inr}
use Rattle.std.specs.Prelude.{◌⊎◌}
use Rattle.op_trees.specs.Tree.{Two}
use Rattle.prism_lex.specs.declared.token.TokenKind.{TokenKind}
use Rattle.prism_lex.specs.declared.token.TokenKind.TheVariants as K
use Rattle.prism_lex.specs.declared.words.Reserved.{Reserved}
use Rattle.prism_lex.specs.declared.words.Reserved.TheVariants as W
use Rattle.prism_lex.specs.declared.symbols.Symbol.{Symbol}
use Rattle.prism_lex.specs.declared.symbols.Symbol.TheVariants as S
use Rattle.prism_lex.specs.Tokens.{Lexeme}
use Rattle.prism_tree.specs.declared.operator.PrismOp.{PrismOp}
use Rattle.prism_tree.specs.declared.operator.PrismOp.TheVariants as O
use Rattle.prism_tree.specs.Syntax.{Expression}
use Rattle.prism_tree.specs.Lang.{Lang, token, token_with, gives, never, ◌>>=◌, ◌or◌, many, folding, fold_left}
use Rattle.prism_tree.specs.Grammar.{infix_of, infix_at, at_level, operator_at, prefix_at, joined_by, operand, chain, prefixed, over_prefix, function_of, number_of, number_at, parenthesised, argument, one_argument, two_arguments, arguments, name_or_call, extremum, truth, prim, level, choice, conditional, expr_at, expr}
use Rattle.prism_exprs.proofs.Exprs.{IsPrefix, of_minus, of_not, prefix_is}

-- an operator between two operands
abbrev pub is_infix : Option (ℕ × PrismOp) → Bool
is_infix None = false
is_infix (Some p) = true

-- the kinds of tokens that occur in expressions
abbrev pub in_expression : TokenKind → Bool
in_expression (K.Word W.True) = true
in_expression (K.Word W.False) = true
in_expression (K.Word W.Min) = true
in_expression (K.Word W.Max) = true
in_expression (K.Number d) = true
in_expression K.Ident = true
in_expression (K.Symbol S.LeftParenthesis) = true
in_expression (K.Symbol S.RightParenthesis) = true
in_expression (K.Symbol S.Comma) = true
in_expression (K.Symbol S.Question) = true
in_expression (K.Symbol S.Colon) = true
in_expression (K.Symbol S.Not) = true
in_expression (K.Symbol s) = is_infix (infix_at s)
in_expression k = false

-- The kind of each token passes the test.
abbrev pub AllKinds : (TokenKind → Bool) → List Lexeme → Type 0
AllKinds P [] = Unit {0}
AllKinds P (t ∷ w) = (P t.kind ≡ true) × AllKinds P w

pub kinds_append : (P : TokenKind → Bool) (a b : List Lexeme) → AllKinds P a → AllKinds P b → AllKinds P (a ++ b)
kinds_append P [] b p q = q
kinds_append P (t ∷ a) b p q = (p.0, kinds_append P a b p.1 q)

-- so it does of the token behind a front
pub kinds_at : (P : TokenKind → Bool) (w a b : List Lexeme) (t : Lexeme) → AllKinds P w → w ≡ a ++ t ∷ b → P t.kind ≡ true
kinds_at P w a b t p e = let F : List Lexeme → Type 0 = λ u. AllKinds P u in go a (subst F e p)
  where
    go : (a : List Lexeme) → AllKinds P (a ++ t ∷ b) → P t.kind ≡ true
    go [] p = p.0
    go (s ∷ a) p = go a p.1

-- The kinds of the tokens of each word pass the test.
pub record Within {A : Type 0} (P : TokenKind → Bool) (L : Lang A) : Type 0 where
  pub all : (w : List Lexeme) (x : A) → L w x → AllKinds P w

-- ---- the words of the notation

kinds_of : (P : TokenKind → Bool) (w v : List Lexeme) → w ≡ v → AllKinds P v → AllKinds P w
kinds_of P w v e p = let F : List Lexeme → Type 0 = λ u. AllKinds P u in subst F (sym e) p

pub gives_within : {A : Type 0} (P : TokenKind → Bool) (a : A) → Within P (gives a)
unfolding gives
gives_within P a = record { all = λ w x h. kinds_of P w [] h.0 tt }

pub token_within : (P : TokenKind → Bool) (k : TokenKind) → P k ≡ true → Within P (token k)
unfolding token
token_within P k y = record { all = λ w t h. kinds_of P w (t ∷ []) h.0 (ap P h.1 ∙ y, tt) }

pub token_with_within : {A : Type 0} (P : TokenKind → Bool) (meaning : Lexeme → Option A) → ((t : Lexeme) (x : A) → meaning t ≡ Some x → P t.kind ≡ true) → Within P (token_with meaning)
unfolding token_with
token_with_within P meaning y = record { all = λ w x h. kinds_of P w (h.0 ∷ []) h.1 (y h.0 x h.2, tt) }

pub then_within : {A B : Type 0} {P : TokenKind → Bool} {L : Lang A} {M : A → Lang B} → Within P L → ((x : A) → Within P (M x)) → Within P (L >>= M)
unfolding ◌>>=◌
then_within {P = P} l m = record { all = λ w y h. kinds_of P w (h.1 ++ h.2) h.3 (kinds_append P h.1 h.2 (l.all h.1 h.0 h.4) ((m h.0).all h.2 y h.5)) }

pub or_within : {A : Type 0} {P : TokenKind → Bool} {L M : Lang A} → Within P L → Within P M → Within P (L or M)
unfolding ◌or◌
or_within {A} {P} {L} {M} l m = record { all = go }
  where
    go : (w : List Lexeme) (x : A) → L w x ⊎ M w x → AllKinds P w
    go w x (inl h) = l.all w x h
    go w x (inr h) = m.all w x h

pub many_within : {A : Type 0} {P : TokenKind → Bool} {L : Lang A} → Within P L → Within P (many L)
unfolding many
many_within {A} {P} {L} l = record { all = λ w xs. go xs w }
  where
    go : (xs : List A) (w : List Lexeme) → many L w xs → AllKinds P w
    go [] w h = kinds_of P w [] h tt
    go (x ∷ xs) w h = kinds_of P w (h.0 ++ h.1) h.2 (kinds_append P h.0 h.1 (l.all h.0 x h.3) (go xs h.1 h.4))

pub folding_within : {R A : Type 0} (f : R → A → R) (s : R) {P : TokenKind → Bool} {L : Lang A} → Within P L → Within P (folding f L s)
unfolding folding
folding_within f s l = then_within (many_within l) (λ xs. gives_within _ (fold_left f s xs))

-- ---- the productions of expressions

truth_kinds : (r : Reserved) (b : Bool) → in_expression (K.Word r) ≡ true → Within in_expression (truth r b)
unfolding truth
truth_kinds r b y = then_within (token_within _ _ y) (λ t. gives_within _ _)

number_in : (t : Lexeme) (k : TokenKind) (x : Expression) → number_of t k ≡ Some x → in_expression k ≡ true
number_in t (K.Number d) x h = refl
number_in t k x h = cc

parenthesised_kinds : {E : Lang Expression} → Within in_expression E → Within in_expression (parenthesised E)
unfolding parenthesised
parenthesised_kinds l = then_within (token_within _ _ refl) (λ t. then_within l (λ x. then_within (token_within _ _ refl) (λ c. gives_within _ _)))

argument_kinds : {E : Lang Expression} → Within in_expression E → Within in_expression (argument E)
unfolding argument
argument_kinds l = then_within (token_within _ _ refl) (λ t. l)

one_argument_kinds : (o : PrismOp) (at : ℕ) {E : Lang Expression} → Within in_expression E → Within in_expression (one_argument E o at)
unfolding one_argument
one_argument_kinds o at l = then_within (token_within _ _ refl) (λ t. then_within l (λ x. then_within (token_within _ _ refl) (λ c. gives_within _ _)))

two_arguments_kinds : (o : PrismOp) (at : ℕ) {E : Lang Expression} → Within in_expression E → Within in_expression (two_arguments E o at)
unfolding two_arguments
two_arguments_kinds o at l =
    then_within (token_within _ _ refl) (λ t. then_within l (λ a. then_within (argument_kinds l) (λ b. then_within (token_within _ _ refl) (λ c. gives_within _ _))))

arguments_kinds : (f : Option PrismOp) (at : ℕ) {E : Lang Expression} → Within in_expression E → Within in_expression (arguments E f at)
unfolding never
arguments_kinds None at l = record { all = λ w x h. absurd h }
arguments_kinds (Some O.Mod) at l = two_arguments_kinds O.Mod at l
arguments_kinds (Some o) at l = one_argument_kinds o at l

name_kinds : {E : Lang Expression} → Within in_expression E → Within in_expression (name_or_call E)
unfolding name_or_call
name_kinds l = then_within (token_within _ _ refl) (λ t. or_within (gives_within _ _) (arguments_kinds (function_of t.text) t.at l))

extremum_kinds : (r : Reserved) (o : PrismOp) {E : Lang Expression} → in_expression (K.Word r) ≡ true → Within in_expression E → Within in_expression (extremum E r o)
unfolding extremum
extremum_kinds r o y l =
    then_within (token_within _ _ y) (λ t. then_within (token_within _ _ refl) (λ p. then_within l (λ a. then_within (argument_kinds l) (λ b.
    then_within (folding_within (λ x y. Two t.at o x y) (Two t.at o a b) (argument_kinds l)) (λ e. then_within (token_within _ _ refl) (λ c. gives_within _ _))))))

prim_kinds : {E : Lang Expression} → Within in_expression E → Within in_expression (prim E)
unfolding prim
prim_kinds l =
    or_within (truth_kinds W.True true refl) (or_within (truth_kinds W.False false refl) (or_within (token_with_within _ number_at (λ t x h. number_in t t.kind x h)) (or_within (name_kinds l)
    (or_within (parenthesised_kinds l) (or_within (extremum_kinds W.Min O.Min refl l) (extremum_kinds W.Max O.Max refl l))))))

some_infix : (n : ℕ) (p : Option (ℕ × PrismOp)) (o : PrismOp) → at_level n p ≡ Some o → is_infix p ≡ true
some_infix n None o h = cc
some_infix n (Some p) o h = refl

infix_in : (k : TokenKind) → is_infix (infix_of k) ≡ true → in_expression k ≡ true
infix_in (K.Symbol S.LeftParenthesis) h = refl
infix_in (K.Symbol S.RightParenthesis) h = refl
infix_in (K.Symbol S.Comma) h = refl
infix_in (K.Symbol S.Question) h = refl
infix_in (K.Symbol S.Colon) h = refl
infix_in (K.Symbol S.Not) h = refl
infix_in (K.Symbol s) h = h
infix_in k h = cc

operand_kinds : (n : ℕ) {L : Lang Expression} → Within in_expression L → Within in_expression (operand n L)
unfolding operand
operand_kinds n l = then_within (token_with_within _ (operator_at n) (λ t o h. infix_in t.kind (some_infix n (infix_of t.kind) o h))) (λ o. then_within l (λ e. gives_within _ _))

-- the signs before an operand
sign_in : (n : ℕ) (p : Symbol × PrismOp) → prefix_at n ≡ Some p → in_expression (K.Symbol p.0) ≡ true
sign_in n p h = by_prefix (prefix_is n p h)
  where
    by_prefix : IsPrefix n p → in_expression (K.Symbol p.0) ≡ true
    by_prefix (of_minus e f) = ap (λ (q : Symbol × PrismOp). in_expression (K.Symbol q.0)) f
    by_prefix (of_not e f) = ap (λ (q : Symbol × PrismOp). in_expression (K.Symbol q.0)) f

over_kinds : (p : Option (Symbol × PrismOp)) (n : ℕ) {L : Lang Expression} → prefix_at n ≡ p → Within in_expression L → Within in_expression (over_prefix p n L)
unfolding chain prefixed
over_kinds (Some p) n h l = then_within (many_within (token_within _ _ (sign_in n p h))) (λ ts. then_within l (λ e. gives_within _ _))
over_kinds None n h l = then_within l (λ e. folding_within joined_by e (operand_kinds n l))

level_kinds : (n : ℕ) {E : Lang Expression} → Within in_expression E → Within in_expression (level E n)
level_kinds zero l = prim_kinds l
level_kinds (suc n) l = over_kinds (prefix_at n) n refl (level_kinds n l)

choice_kinds : (c : Expression) {E : Lang Expression} → Within in_expression E → Within in_expression (choice E c)
unfolding choice
choice_kinds c l = then_within (token_within _ _ refl) (λ q. then_within l (λ a. then_within (token_within _ _ refl) (λ k. then_within l (λ b. gives_within _ _))))

conditional_kinds : {E : Lang Expression} → Within in_expression E → Within in_expression (conditional E)
unfolding conditional
conditional_kinds l = then_within (level_kinds 10 l) (λ c. or_within (gives_within _ c) (choice_kinds c l))

at_kinds : (n : ℕ) → Within in_expression (expr_at n)
at_kinds zero = record { all = λ w x h. absurd h }
at_kinds (suc n) = record { all = λ w x. (conditional_kinds (at_kinds n)).all w x }

-- Each token of an expression is of a kind that occurs there.
pub expr_kinds : Within in_expression expr
unfolding expr
expr_kinds = record { all = λ w x h. (at_kinds h.0).all w x h.1 }
