-- Operands that are bounds: of two that begin one list each is the other, whatever comes behind.
use Rattle.std.proofs.Common.{◌≡◌, ℕ, ◌<◌, ◌≤◌, Bool, true, false, List, [], ◌∷◌, ◌++◌, Option, Some, None, refl, sym, ap, ◌∙◌, arith, inl, inr}
use Rattle.std.specs.Prelude.{◌⊎◌, if◌then◌else◌}
use Rattle.op_trees.specs.Tree.{Truth, Name, Two}
use Rattle.prism_lex.specs.declared.token.TokenKind.{TokenKind}
use Rattle.prism_lex.specs.declared.token.TokenKind.TheVariants as K
use Rattle.prism_lex.specs.declared.words.Reserved.{Reserved}
use Rattle.prism_lex.specs.declared.words.Reserved.TheVariants as W
use Rattle.prism_lex.specs.declared.symbols.Symbol.TheVariants as S
use Rattle.prism_lex.specs.Tokens.{Lexeme}
use Rattle.prism_tree.specs.declared.operator.PrismOp.{PrismOp}
use Rattle.prism_tree.specs.declared.operator.PrismOp.TheVariants as O
use Rattle.prism_tree.specs.Syntax.{Expression}
use Rattle.prism_tree.specs.Lang.{Lang, token, token_with, gives, never, ◌>>=◌, ◌or◌}
use Rattle.prism_tree.specs.Grammar.{function_of, number_at, parenthesised, one_argument, two_arguments, arguments, name_or_call, extremum, truth, prim, expr}
use Rattle.prism_exprs.specs.Reading.{none}
use Rattle.prism_exprs.specs.Levels.{begins_prim, goes_on, lists_on}
use Rattle.prism_exprs.specs.Scope.{Scope}
use Rattle.prism_exprs.proofs.Laws.{IsOne, HasWord, token_follows, then_one, step_one, token_one, token_with_one, gives_one}
use Rattle.prism_exprs.proofs.Choice.{Opens, token_opens, then_opens, or_one, opens_follows, folding_one, folding_follows}
use Rattle.prism_exprs.proofs.Exprs.{IsNumber, expr_one, prim_opens, number_opens, truth_opens, parenthesised_opens, extremum_opens, argument_opens, argument_one, comma_not_on, comma_repeats, then_follows, arguments_opens}
use Rattle.prism_exprs.proofs.Outer.{early_short}
use Rattle.prop_grammar.specs.Faults.{operand, outer_operand}
use Rattle.prop_grammar.specs.Grammar.{is_name, named_if, function_name_of, IsOpen}
use Rattle.prop_reader.specs.Parts.{operands, operands_of}

-- ---- the same operands, told apart by their first tokens

abbrev by_function : Lexeme → Option PrismOp → Lang Expression
by_function t None = gives (Name t.at t.text)
by_function t (Some o) = arguments expr (Some o) t.at

unfoldable pub plain_or_call : Lang Expression
plain_or_call = token K.Ident >>= λ t. by_function t (function_of t.text)

-- the place of a kind among those that begin operands
abbrev form : TokenKind → ℕ
form (K.Word W.True) = 0
form (K.Word W.False) = 1
form (K.Number d) = 2
form K.Ident = 3
form (K.Symbol S.LeftParenthesis) = 4
form (K.Word W.Min) = 5
form (K.Word W.Max) = 6
form k = 7

abbrev from_min : Lang Expression
from_min = extremum expr W.Min O.Min or extremum expr W.Max O.Max

abbrev from_parenthesis : Lang Expression
from_parenthesis = parenthesised expr or from_min

abbrev from_name : Lang Expression
from_name = plain_or_call or from_parenthesis

abbrev from_number : Lang Expression
from_number = token_with number_at or from_name

abbrev from_false : Lang Expression
from_false = truth W.False false or from_number

abbrev shut : Lang Expression
shut = truth W.True true or from_false

-- ---- first tokens

opens_at : {A : Type 0} {L : Lang A} (P Q : TokenKind → Type 0) → ((k : TokenKind) → P k → Q k) → Opens L P → Opens L Q
opens_at P Q h o w a p = let n = o w a p in (n.0, n.1, n.2, h (n.0).kind n.3)

opens_from : {L M : Lang Expression} (i : ℕ) → Opens L (λ k. form k ≡ i) → Opens M (λ k. i < form k) → Opens (L or M) (λ k. i ≤ form k)
unfolding ◌or◌
opens_from {L} {M} i p q w a h = by_case h
  where
    by_case : L w a ⊎ M w a → (t : Lexeme) × (u : List Lexeme) × (w ≡ t ∷ u) × (i ≤ form t.kind)
    by_case (inl h) = let n = p w a h in let e = n.3 in (n.0, n.1, n.2, omega (arith, e))
    by_case (inr h) = let n = q w a h in let e = n.3 in (n.0, n.1, n.2, omega (arith, e))

above : {L : Lang Expression} (i j : ℕ) → i < j → Opens L (λ k. j ≤ form k) → Opens L (λ k. i < form k)
above i j lt o = opens_at (λ k. j ≤ form k) (λ k. i < form k) (λ k h. omega (arith, lt, h)) o

opens_true : Opens (truth W.True true) (λ k. form k ≡ 0)
opens_true = opens_at (λ k. k ≡ K.Word W.True) (λ k. form k ≡ 0) (λ k h. ap form h) (truth_opens W.True true)

opens_false : Opens (truth W.False false) (λ k. form k ≡ 1)
opens_false = opens_at (λ k. k ≡ K.Word W.False) (λ k. form k ≡ 1) (λ k h. ap form h) (truth_opens W.False false)

opens_number : Opens (token_with number_at) (λ k. form k ≡ 2)
opens_number = opens_at IsNumber (λ k. form k ≡ 2) (λ k h. ap form h.1) number_opens

opens_name : Opens plain_or_call (λ k. form k ≡ 3)
unfolding plain_or_call
opens_name = opens_at (λ k. k ≡ K.Ident) (λ k. form k ≡ 3) (λ k h. ap form h) (then_opens _ (λ k. k ≡ K.Ident) (token_opens K.Ident))

opens_parenthesis : Opens (parenthesised expr) (λ k. form k ≡ 4)
opens_parenthesis = opens_at (λ k. k ≡ K.Symbol S.LeftParenthesis) (λ k. form k ≡ 4) (λ k h. ap form h) (parenthesised_opens expr)

opens_min : Opens (extremum expr W.Min O.Min) (λ k. form k ≡ 5)
opens_min = opens_at (λ k. k ≡ K.Word W.Min) (λ k. form k ≡ 5) (λ k h. ap form h) (extremum_opens expr W.Min O.Min)

opens_max : Opens (extremum expr W.Max O.Max) (λ k. 5 < form k)
opens_max = opens_at (λ k. k ≡ K.Word W.Max) (λ k. 5 < form k) (λ k h. omega (arith, ap form h)) (extremum_opens expr W.Max O.Max)

opens_from_min : Opens from_min (λ k. 4 < form k)
opens_from_min = above 4 5 (omega arith) (opens_from 5 opens_min opens_max)

opens_from_parenthesis : Opens from_parenthesis (λ k. 3 < form k)
opens_from_parenthesis = above 3 4 (omega arith) (opens_from 4 opens_parenthesis opens_from_min)

opens_from_name : Opens from_name (λ k. 2 < form k)
opens_from_name = above 2 3 (omega arith) (opens_from 3 opens_name opens_from_parenthesis)

opens_from_number : Opens from_number (λ k. 1 < form k)
opens_from_number = above 1 2 (omega arith) (opens_from 2 opens_number opens_from_name)

opens_from_false : Opens from_false (λ k. 0 < form k)
opens_from_false = above 0 1 (omega arith) (opens_from 1 opens_false opens_from_number)

-- ---- one reading, whatever comes behind

truth_shut : (r : Reserved) (b : Bool) → IsOne (truth r b) none
unfolding truth
truth_shut r b = step_one _ (token_one (K.Word r)) (λ t. gives_one (Truth t.at b) none)

parenthesised_shut : IsOne (parenthesised expr) none
unfolding parenthesised
parenthesised_shut =
    step_one _ (token_one _) (λ t. then_one goes_on expr_one (λ e. step_one _ (token_one _) (λ c. gives_one _ none)) (token_follows goes_on (K.Symbol S.RightParenthesis) _ none refl))

one_argument_shut : (o : PrismOp) (at : ℕ) → IsOne (one_argument expr o at) none
unfolding one_argument
one_argument_shut o at =
    step_one _ (token_one _) (λ t. then_one goes_on expr_one (λ e. step_one _ (token_one _) (λ c. gives_one _ none)) (token_follows goes_on (K.Symbol S.RightParenthesis) _ none refl))

two_arguments_shut : (o : PrismOp) (at : ℕ) → IsOne (two_arguments expr o at) none
unfolding two_arguments
two_arguments_shut o at =
    step_one _ (token_one _) (λ t. then_one goes_on expr_one (λ a. then_one goes_on (argument_one expr expr_one) (λ b. step_one _ (token_one _) (λ c. gives_one _ none))
    (token_follows goes_on (K.Symbol S.RightParenthesis) _ none refl))
    (opens_follows goes_on none (λ a. then_opens _ _ (argument_opens expr)) comma_not_on))

arguments_shut : (f : Option PrismOp) (at : ℕ) → IsOne (arguments expr f at) none
unfolding never
arguments_shut None at = record { one = λ w z v y a b p. absurd p }
arguments_shut (Some O.Mod) at = two_arguments_shut O.Mod at
arguments_shut (Some o) at = one_argument_shut o at

by_function_shut : (t : Lexeme) (f : Option PrismOp) → IsOne (by_function t f) none
by_function_shut t None = gives_one _ none
by_function_shut t (Some o) = arguments_shut (Some o) t.at

name_shut : IsOne plain_or_call none
unfolding plain_or_call
name_shut = step_one _ (token_one K.Ident) (λ t. by_function_shut t (function_of t.text))

extremum_shut : (r : Reserved) (o : PrismOp) → IsOne (extremum expr r o) none
unfolding extremum
extremum_shut r o =
    step_one _ (token_one _) (λ t. step_one _ (token_one _) (λ p. then_one goes_on expr_one (λ a. then_one goes_on (argument_one expr expr_one) (λ b.
    then_one lists_on (folding_one (λ x y. Two t.at o x y) (Two t.at o a b) (argument_opens expr) comma_repeats (argument_one expr expr_one)) (λ e. step_one _ (token_one _) (λ c. gives_one e none))
    (token_follows lists_on (K.Symbol S.RightParenthesis) _ none refl))
    (then_follows lists_on (folding_follows (λ x y. Two t.at o x y) (argument_opens expr) comma_repeats (λ b. Two t.at o a b)) (λ b. token_follows lists_on (K.Symbol S.RightParenthesis) _ none refl)))
    (opens_follows goes_on none (λ a. then_opens _ _ (argument_opens expr)) comma_not_on)))

either_one : {L M : Lang Expression} (i : ℕ) → Opens L (λ k. form k ≡ i) → Opens M (λ k. i < form k) → IsOne L none → IsOne M none → IsOne (L or M) none
either_one i p q l m = or_one (λ k. form k ≡ i) (λ k. i < form k) p q (λ k e f. omega (arith, e, f)) l m

shut_one : IsOne shut none
shut_one =
    either_one 0 opens_true opens_from_false (truth_shut W.True true) (either_one 1 opens_false opens_from_number (truth_shut W.False false)
    (either_one 2 opens_number opens_from_name (token_with_one number_at none) (either_one 3 opens_name opens_from_parenthesis name_shut
    (either_one 4 opens_parenthesis opens_from_min parenthesised_shut (either_one 5 opens_min opens_max (extremum_shut W.Min O.Min) (extremum_shut W.Max O.Max))))))

-- ---- operands are of these

called_shut : (t : Lexeme) (f : Option PrismOp) (b : List Lexeme) (x : Expression) → arguments expr f t.at b x → by_function t f b x
unfolding never
called_shut t None b x h = absurd h
called_shut t (Some o) b x h = h

plain_shut : (t : Lexeme) (f : Option PrismOp) (b : List Lexeme) (x : Expression) → f ≡ None → gives (Name t.at t.text) b x → by_function t f b x
plain_shut t None b x e h = h
plain_shut t (Some o) b x e h = absurd cc

pub to_shut : (w : List Lexeme) (x : Expression) → operand w x → shut w x
unfolding operand prim name_or_call plain_or_call ◌or◌ ◌>>=◌ token gives
to_shut w x h = by_prim h.0
  where
    named : (t : Lexeme) (a b : List Lexeme) → w ≡ a ++ b → (a ≡ t ∷ []) × (t.kind ≡ K.Ident) → gives (Name t.at t.text) b x ⊎ arguments expr (function_of t.text) t.at b x → by_function t (function_of t.text) b x
    named t a b e k (inl g) =
        let whole : w ≡ t ∷ [] = e ∙ ap (λ (u : List Lexeme). u ++ b) k.0 ∙ ap (λ (u : List Lexeme). t ∷ u) g.0 in
        plain_shut t (function_of t.text) b x (h.1 t whole k.1) g
    named t a b e k (inr g) = called_shut t (function_of t.text) b x g

    by_prim : prim expr w x → shut w x
    by_prim (inl p) = inl p
    by_prim (inr (inl p)) = inr (inl p)
    by_prim (inr (inr (inl p))) = inr (inr (inl p))
    by_prim (inr (inr (inr (inl p)))) = inr (inr (inr (inl (p.0, p.1, p.2, p.3, p.4, named p.0 p.1 p.2 p.3 p.4 p.5))))
    by_prim (inr (inr (inr (inr p)))) = inr (inr (inr (inr p)))

pub operand_one : IsOne operand none
operand_one = record { one = λ w z v y a b p q. shut_one.one w z v y a b (to_shut w a p) (to_shut v b q) }

-- ---- in a scope

plain_operand : (c : Option (List Lexeme)) (w : List Lexeme) (x : Expression) → operands_of c w x → operand w x
unfolding outer_operand
plain_operand None w x p = p
plain_operand (Some us) w x p = p.0

pub operands_one : (s : Scope) → IsOne (operands s) none
operands_one s = record { one = λ w z v y a b p q. operand_one.one w z v y a b (plain_operand s.counted w a p) (plain_operand s.counted v b q) }

pub operands_opens : (s : Scope) → Opens (operands s) (λ k. begins_prim k ≡ true)
unfolding operand
operands_opens s w x p = prim_opens expr w x (plain_operand s.counted w x p).0

true_operand : (c : Option (List Lexeme)) → HasWord (operands_of c)
unfolding operand outer_operand prim truth token ◌>>=◌ ◌or◌ gives
true_operand c =
    let t : Lexeme = record { kind = K.Word W.True; text = []; at = 0 } in
    let p : operand (t ∷ []) (Truth 0 true) = (inl (t, t ∷ [], [], refl, (refl, refl), (refl, refl)), λ u e k. let i : t ≡ u = cc in let j : K.Word W.True ≡ K.Ident = ap (λ (v : Lexeme). v.kind) i ∙ k in absurd cc) in
    (t ∷ [], Truth 0 true, by_scope c p)
  where
    by_scope : (c : Option (List Lexeme)) → operand (record { kind = K.Word W.True; text = []; at = 0 } ∷ []) (Truth 0 true) → operands_of c (record { kind = K.Word W.True; text = []; at = 0 } ∷ []) (Truth 0 true)
    by_scope None p = p
    by_scope (Some us) p = (p, early_short us _ (omega arith))

pub operands_word : (s : Scope) → HasWord (operands s)
operands_word s = true_operand s.counted

-- ---- names of functions

-- what such a name is
pub record IsFunction (t : Lexeme) : Type 0 where
  pub kind : t.kind ≡ K.Ident
  pub op : PrismOp
  pub is : function_of t.text ≡ Some op

pub function_is : (t : Lexeme) (e : Expression) → function_name_of t ≡ Some e → IsFunction t
function_is t e h = by_kind t.kind refl h
  where
    by_op : (f : Option PrismOp) → function_of t.text ≡ f → named_if t f ≡ Some e → (o : PrismOp) × (function_of t.text ≡ Some o)
    by_op None g i = absurd cc
    by_op (Some o) g i = (o, g)

    by_kind : (k : TokenKind) → t.kind ≡ k → (if is_name k then named_if t (function_of t.text) else None) ≡ Some e → IsFunction t
    by_kind K.Ident g i = let n = by_op (function_of t.text) refl i in record { kind = g; op = n.0; is = n.1 }
    by_kind (K.Word r) g i = absurd cc
    by_kind (K.Symbol r) g i = absurd cc
    by_kind K.Quoted g i = absurd cc
    by_kind (K.Number d) g i = absurd cc
    by_kind K.End g i = absurd cc

open_front : (b u : List Lexeme) → ((t : Lexeme) × (v : List Lexeme) × (b ≡ t ∷ v) × (t.kind ≡ K.Symbol S.LeftParenthesis)) → b ≡ u → IsOpen u
open_front b [] n e = let i : n.0 ∷ n.1 ≡ [] = sym n.2 ∙ e in absurd cc
open_front b (s ∷ u) n e =
    let i : n.0 ∷ n.1 ≡ s ∷ u = sym n.2 ∙ e in
    let j : n.0 ≡ s = cc in
    ap (λ (v : Lexeme). v.kind) (sym j) ∙ n.3

-- Behind the name of a function in an operand stands a parenthesis.
pub function_call : (w u : List Lexeme) (t : Lexeme) (x : Expression) → operand w x → w ≡ t ∷ u → IsFunction t → IsOpen u
unfolding plain_or_call ◌or◌ ◌>>=◌ token
function_call w u t x p e f = by_shut (to_shut w x p)
  where
    at_three : form t.kind ≡ 3
    at_three = ap form f.kind

    first_at : (n : (s : Lexeme) × (v : List Lexeme) × (w ≡ s ∷ v)) → form (n.0).kind ≡ form t.kind
    first_at n =
        let i : n.0 ∷ n.1 ≡ t ∷ u = sym n.2 ∙ e in
        let j : n.0 ≡ t = cc in
        ap (λ (v : Lexeme). form v.kind) j

    by_name : (s : Lexeme) (a b : List Lexeme) (g : Option PrismOp) → w ≡ a ++ b → a ≡ s ∷ [] → function_of s.text ≡ g → by_function s g b x → IsOpen u
    by_name s a b None h i j k =
        let l : s ∷ b ≡ t ∷ u = sym (h ∙ ap (λ (v : List Lexeme). v ++ b) i) ∙ e in
        let m : s ≡ t = cc in
        let o : None ≡ Some f.op = sym j ∙ ap (λ (v : Lexeme). function_of v.text) m ∙ f.is in
        absurd cc
    by_name s a b (Some o) h i j k =
        let l : s ∷ b ≡ t ∷ u = sym (h ∙ ap (λ (v : List Lexeme). v ++ b) i) ∙ e in
        let m : b ≡ u = cc in
        open_front b u (arguments_opens expr (Some o) s.at b x k) m

    by_shut : shut w x → IsOpen u
    by_shut (inl h) = let n = opens_true w x h in let a = n.3 in let b = first_at (n.0, n.1, n.2) in let c = at_three in absurd (omega (arith, a, b, c))
    by_shut (inr (inl h)) = let n = opens_false w x h in let a = n.3 in let b = first_at (n.0, n.1, n.2) in let c = at_three in absurd (omega (arith, a, b, c))
    by_shut (inr (inr (inl h))) = let n = opens_number w x h in let a = n.3 in let b = first_at (n.0, n.1, n.2) in let c = at_three in absurd (omega (arith, a, b, c))
    by_shut (inr (inr (inr (inl h)))) = by_name h.0 h.1 h.2 (function_of (h.0).text) h.3 h.4.0 refl h.5
    by_shut (inr (inr (inr (inr h)))) = let n = opens_from_parenthesis w x h in let a = n.3 in let b = first_at (n.0, n.1, n.2) in let c = at_three in absurd (omega (arith, a, b, c))

pub operand_of : (s : Scope) (w : List Lexeme) (x : Expression) → operands s w x → operand w x
operand_of s w x p = plain_operand s.counted w x p
