-- Bounds, and what stands behind a bound of steps.
use Rattle.std.proofs.Common.{◌≡◌, Bool, false, List, [], ◌∷◌, ◌++◌, sym, ap, subst, ◌∙◌, inl, inr, append_assoc}
use Rattle.std.specs.Prelude.{◌⊎◌}
use Rattle.prism_lex.specs.declared.token.TokenKind.{TokenKind}
use Rattle.prism_lex.specs.declared.token.TokenKind.TheVariants as K
use Rattle.prism_lex.specs.declared.symbols.Symbol.TheVariants as S
use Rattle.prism_lex.specs.Tokens.{Lexeme}
use Rattle.prism_tree.specs.Syntax.{Expression}
use Rattle.prism_tree.specs.Lang.{token_with, ◌>>=◌, ◌or◌}
use Rattle.prism_exprs.specs.Reading.{Ends, none}
use Rattle.prism_exprs.specs.Levels.{goes_on}
use Rattle.prism_exprs.specs.Scope.{Scope, expressions}
use Rattle.prism_exprs.proofs.Laws.{IsOne, HasWord, then_one, then_word, step_one, token_with_one, gives_one, gives_word, none_ends}
use Rattle.prism_exprs.proofs.Choice.{or_word}
use Rattle.prism_exprs.proofs.Exprs.{gives_follows}
use Rattle.prism_exprs.proofs.Outer.{expressions_one, expressions_word, expressions_opens}
use Rattle.prop_grammar.specs.Grammar
use Rattle.prop_grammar.specs.Grammar.{IsOpen, function_name, function_name_of}
use Rattle.prop_reader.specs.Parts.{in_scope, operands, opens}
use Rattle.prop_reader.proofs.Shut.{function_is, function_call, operands_one, operands_word, operands_opens, operand_of}

-- ---- a parenthesis

pub not_open : (z : List Lexeme) → Ends opens z → IsOpen z → ⊥
not_open [] e h = h
not_open (t ∷ z) e h =
    let F : TokenKind → Type 0 = λ k. opens k ≡ false in
    let n : opens (K.Symbol S.LeftParenthesis) ≡ false = subst F h e in
    absurd cc

open_append : (u z : List Lexeme) → IsOpen u → IsOpen (u ++ z)
open_append [] z h = absurd h
open_append (t ∷ u) z h = h

-- An operand and the name of a function alone stand at the front of one list: then a parenthesis follows.
pub name_and_call : (s : Scope) (w z v y : List Lexeme) (a b : Expression) → operands s w a → function_name v b → w ++ z ≡ v ++ y → IsOpen y
unfolding token_with
name_and_call s w z v y a b p q e =
    let n = operands_opens s w a p in
    let f = function_is q.0 b q.2 in
    let g : n.0 ∷ (n.1 ++ z) ≡ q.0 ∷ y = ap (λ (u : List Lexeme). u ++ z) (sym n.2) ∙ e ∙ ap (λ (u : List Lexeme). u ++ y) q.1 in
    let h : n.0 ≡ q.0 = cc in
    let i : n.1 ++ z ≡ y = cc in
    let F : Lexeme → Type 0 = λ t. w ≡ t ∷ n.1 in
    subst (λ (u : List Lexeme). IsOpen u) i (open_append n.1 z (function_call w n.1 q.0 a (operand_of s w a p) (subst F h n.2) f))

function_name_one : (m : TokenKind → Bool) → IsOne function_name m
function_name_one m = token_with_one function_name_of m

pub bound_one : (s : Scope) → IsOne (in_scope Grammar.bound s) opens
unfolding Grammar.bound ◌or◌
bound_one s = record { one = go }
  where
    go : (w z v y : List Lexeme) (a b : Expression) → operands s w a ⊎ function_name w a → operands s v b ⊎ function_name v b → w ++ z ≡ v ++ y → Ends opens z → Ends opens y → (w ≡ v) × (a ≡ b)
    go w z v y a b (inl p) (inl q) e f g = (operands_one s).one w z v y a b p q e (none_ends z) (none_ends y)
    go w z v y a b (inr p) (inr q) e f g = (function_name_one none).one w z v y a b p q e (none_ends z) (none_ends y)
    go w z v y a b (inl p) (inr q) e f g = absurd (not_open y g (name_and_call s w z v y a b p q e))
    go w z v y a b (inr p) (inl q) e f g = absurd (not_open z f (name_and_call s v y w z b a q p (sym e)))

pub bound_word : (s : Scope) → HasWord (in_scope Grammar.bound s)
unfolding Grammar.bound
bound_word s = or_word _ _ (operands_word s)

-- ---- what stands behind a bound of steps

pub unopened_one : (s : Scope) → IsOne (Grammar.unopened (expressions s)) goes_on
unfolding Grammar.unopened
unopened_one s = record { one = λ w z v y a b p q. (expressions_one s).one w z v y a b p.0 q.0 }

plain_one : (s : Scope) → IsOne (in_scope Grammar.plain_within s) goes_on
unfolding Grammar.plain_within
plain_one s = step_one _ (operands_one s) (λ k. then_one goes_on (expressions_one s) (λ e. gives_one (k, e) goes_on) (gives_follows (λ e. (k, e)) goes_on))

plain_word : (s : Scope) → HasWord (in_scope Grammar.plain_within s)
unfolding Grammar.plain_within
plain_word s = then_word (operands_word s) (λ k. then_word (expressions_word s) (λ e. gives_word (k, e)))

named_one : (s : Scope) → IsOne (in_scope Grammar.named_within s) goes_on
unfolding Grammar.named_within
named_one s = step_one _ (function_name_one none) (λ k. then_one goes_on (unopened_one s) (λ e. gives_one (k, e) goes_on) (gives_follows (λ e. (k, e)) goes_on))

-- In a word of the one form a parenthesis follows the name, in a word of the other none does.
pub withins_apart : (s : Scope) (w z v y : List Lexeme) (a b : Expression × Expression) → in_scope Grammar.plain_within s w a → in_scope Grammar.named_within s v b → w ++ z ≡ v ++ y → ⊥
unfolding Grammar.plain_within Grammar.named_within Grammar.unopened ◌>>=◌
withins_apart s w z v y a b p q e =
    let open_next = name_and_call s p.1 (p.2 ++ z) q.1 (q.2 ++ y) p.0 q.0 p.4 q.4 (sym (append_assoc p.1 p.2 z) ∙ ap (λ (u : List Lexeme). u ++ z) (sym p.3) ∙ e ∙ ap (λ (u : List Lexeme). u ++ y) q.3 ∙ append_assoc q.1 q.2 y) in
    let r = q.5 in
    let n = expressions_opens s r.1 r.0 r.4.0 in
    let parts : q.2 ++ y ≡ n.0 ∷ ((n.1 ++ r.2) ++ y) = ap (λ (u : List Lexeme). u ++ y) (r.3 ∙ ap (λ (u : List Lexeme). u ++ r.2) n.2) in
    let F : List Lexeme → Type 0 = λ u. IsOpen u in
    r.4.1 (subst F (sym n.2) (subst F parts open_next))

pub within_one : (s : Scope) → IsOne (in_scope Grammar.within s) goes_on
unfolding Grammar.within ◌or◌
within_one s = record { one = go }
  where
    go : (w z v y : List Lexeme) (a b : Expression × Expression) → in_scope Grammar.plain_within s w a ⊎ in_scope Grammar.named_within s w a → in_scope Grammar.plain_within s v b ⊎ in_scope Grammar.named_within s v b
        → w ++ z ≡ v ++ y → Ends goes_on z → Ends goes_on y → (w ≡ v) × (a ≡ b)
    go w z v y a b (inl p) (inl q) e f g = (plain_one s).one w z v y a b p q e f g
    go w z v y a b (inr p) (inr q) e f g = (named_one s).one w z v y a b p q e f g
    go w z v y a b (inl p) (inr q) e f g = absurd (withins_apart s w z v y a b p q e)
    go w z v y a b (inr p) (inl q) e f g = absurd (withins_apart s v y w z b a q p (sym e))

pub within_word : (s : Scope) → HasWord (in_scope Grammar.within s)
unfolding Grammar.within
within_word s = or_word _ _ (plain_word s)
