-- Expressions: the grammar as a limit, a word of each production, and one reading of each.
use Rattle.std.proofs.Common.{cond, ◌≡◌, ℕ, zero, suc, ◌+◌, ◌≤◌, Bool, true, false, List, [], ◌∷◌, ◌++◌, Option, Some, None, refl, sym, ap, subst, ◌∙◌, append_assoc, arith, inl, inr}
use Rattle.std.proofs.lemmas.Bool.{eqb-true, or_right, or_from}
use Rattle.std.proofs.lemmas.Bool.Decides.{nat_tests}
use Rattle.std.specs.Prelude.{◌⊎◌, ◌==◌, nat_lt, if◌then◌else◌}
use Rattle.basics.specs.Booleans.{first_false, second_false}
use Rattle.frac_core.specs.declared.decimal.Decimal.{Decimal}
use Rattle.op_trees.specs.Tree.{Truth, Name, Two, Three}
use Rattle.op_trees.specs.Names.{offset_of}
use Rattle.prism_lex.specs.declared.token.TokenKind.{TokenKind}
use Rattle.prism_lex.specs.declared.token.TokenKind.TheVariants as K
use Rattle.prism_lex.specs.declared.words.Reserved.{Reserved}
use Rattle.prism_lex.specs.declared.words.Reserved.TheVariants as W
use Rattle.prism_lex.specs.declared.symbols.Symbol.{Symbol}
use Rattle.prism_lex.specs.declared.symbols.Symbol.TheVariants as S
use Rattle.prism_lex.specs.Tokens.{Lexeme}
use Rattle.prism_tree.specs.declared.operator.PrismOp.{PrismOp}
use Rattle.prism_tree.specs.declared.operator.PrismOp.TheVariants as O
use Rattle.prism_tree.specs.Syntax.{Expression}
use Rattle.prism_tree.specs.Lang.{Lang, token_with, gives, never, ◌>>=◌, ◌or◌}
use Rattle.prism_exprs.specs.Reading.{Ends, none, same_kind}
use Rattle.prism_tree.specs.Grammar.{symbol, infix_of, at_level, operator_at, prefix_at, joined_by, applied, operand, chain, prefixed, over_prefix, function_of, number_of, number_at, parenthesised, argument, one_argument, two_arguments, arguments, name_or_call, extremum, truth, prim, level, choice, conditional, expr_at, expr}
use Rattle.prism_exprs.specs.Levels.{is_symbol, binds_below, more, goes_on, lists_on, begins_prim, CanBegin, operand_itself, minus_sign, not_sign}
use Rattle.prism_exprs.proofs.Laws.{IsOne, HasWord, Follows, token_follows, then_one, then_word, step_one, token_one, token_word, token_with_one, gives_one, gives_word}
use Rattle.prism_exprs.proofs.Choice.{Same, Opens, Repeats, token_opens, token_with_opens, then_opens, or_opens, or_one, or_word, many_one, many_word, folding_one, folding_word, folding_follows, opens_follows, many_then_opens}
use Rattle.prism_exprs.proofs.Cut.{gives_or_one}
use Rattle.prism_exprs.proofs.Limits.{IsLimit, const_limit, then_limit, or_limit, folding_limit, two_limit}

-- ---- the grammar as a limit

pub parenthesised_limit : {F : ℕ → Lang Expression} {G : Lang Expression} → IsLimit F G → IsLimit (λ n. parenthesised (F n)) (parenthesised G)
unfolding parenthesised
parenthesised_limit l = then_limit (const_limit _) (λ t. then_limit l (λ e. const_limit _))

pub argument_limit : {F : ℕ → Lang Expression} {G : Lang Expression} → IsLimit F G → IsLimit (λ n. argument (F n)) (argument G)
unfolding argument
argument_limit l = then_limit (const_limit _) (λ t. l)

pub one_argument_limit : (o : PrismOp) (at : ℕ) {F : ℕ → Lang Expression} {G : Lang Expression} → IsLimit F G → IsLimit (λ n. one_argument (F n) o at) (one_argument G o at)
unfolding one_argument
one_argument_limit o at l = then_limit (const_limit _) (λ t. then_limit l (λ e. const_limit _))

pub two_arguments_limit : (o : PrismOp) (at : ℕ) {F : ℕ → Lang Expression} {G : Lang Expression} → IsLimit F G → IsLimit (λ n. two_arguments (F n) o at) (two_arguments G o at)
unfolding two_arguments
two_arguments_limit o at l = then_limit (const_limit _) (λ t. then_limit l (λ a. then_limit (argument_limit l) (λ b. const_limit _)))

pub arguments_limit : (f : Option PrismOp) (at : ℕ) {F : ℕ → Lang Expression} {G : Lang Expression} → IsLimit F G → IsLimit (λ n. arguments (F n) f at) (arguments G f at)
arguments_limit None at l = const_limit never
arguments_limit (Some O.Mod) at l = two_arguments_limit O.Mod at l
arguments_limit (Some o) at l = one_argument_limit o at l

pub name_limit : {F : ℕ → Lang Expression} {G : Lang Expression} → IsLimit F G → IsLimit (λ n. name_or_call (F n)) (name_or_call G)
unfolding name_or_call
name_limit l = then_limit (const_limit _) (λ t. or_limit (const_limit _) (arguments_limit (function_of t.text) t.at l))

pub extremum_limit : (r : Reserved) (o : PrismOp) {F : ℕ → Lang Expression} {G : Lang Expression} → IsLimit F G → IsLimit (λ n. extremum (F n) r o) (extremum G r o)
unfolding extremum
extremum_limit r o l = then_limit (const_limit _) (λ t. then_limit (const_limit _) (λ p. then_limit l (λ a. then_limit (argument_limit l) (λ b.
    then_limit (folding_limit (λ x y. Two t.at o x y) (Two t.at o a b) (argument_limit l)) (λ e. const_limit _)))))

pub prim_limit : {F : ℕ → Lang Expression} {G : Lang Expression} → IsLimit F G → IsLimit (λ n. prim (F n)) (prim G)
unfolding prim
prim_limit l =
    or_limit (const_limit _) (or_limit (const_limit _) (or_limit (const_limit _) (or_limit (name_limit l) (or_limit (parenthesised_limit l)
    (or_limit (extremum_limit W.Min O.Min l) (extremum_limit W.Max O.Max l))))))

pub operand_limit : (k : ℕ) {F : ℕ → Lang Expression} {G : Lang Expression} → IsLimit F G → IsLimit (λ n. operand k (F n)) (operand k G)
unfolding operand
operand_limit k l = then_limit (const_limit _) (λ o. then_limit l (λ e. const_limit _))

pub chain_limit : (k : ℕ) {F : ℕ → Lang Expression} {G : Lang Expression} → IsLimit F G → IsLimit (λ n. chain k (F n)) (chain k G)
unfolding chain
chain_limit k l = then_limit l (λ e. folding_limit joined_by e (operand_limit k l))

pub prefixed_limit : (s : Symbol) (o : PrismOp) {F : ℕ → Lang Expression} {G : Lang Expression} → IsLimit F G → IsLimit (λ n. prefixed s o (F n)) (prefixed s o G)
unfolding prefixed
prefixed_limit s o l = then_limit (const_limit _) (λ ts. then_limit l (λ e. const_limit _))

over_limit : (p : Option (Symbol × PrismOp)) (k : ℕ) {F : ℕ → Lang Expression} {G : Lang Expression} → IsLimit F G → IsLimit (λ n. over_prefix p k (F n)) (over_prefix p k G)
over_limit (Some p) k l = prefixed_limit p.0 p.1 l
over_limit None k l = chain_limit k l

pub level_limit : (k : ℕ) {F : ℕ → Lang Expression} {G : Lang Expression} → IsLimit F G → IsLimit (λ n. level (F n) k) (level G k)
level_limit zero l = prim_limit l
level_limit (suc k) l = over_limit (prefix_at k) k (level_limit k l)

pub choice_limit : (c : Expression) {F : ℕ → Lang Expression} {G : Lang Expression} → IsLimit F G → IsLimit (λ n. choice (F n) c) (choice G c)
unfolding choice
choice_limit c l = then_limit (const_limit _) (λ q. then_limit l (λ a. then_limit (const_limit _) (λ k. then_limit l (λ b. const_limit _))))

pub conditional_limit : {F : ℕ → Lang Expression} {G : Lang Expression} → IsLimit F G → IsLimit (λ n. conditional (F n)) (conditional G)
unfolding conditional
conditional_limit l = then_limit (level_limit 10 l) (λ c. or_limit (const_limit _) (choice_limit c l))

expr_up : (m n : ℕ) → m ≤ n → (w : List Lexeme) (e : Expression) → expr_at m w e → expr_at n w e
expr_up zero n h w e p = absurd p
expr_up (suc m) zero h w e p = absurd (omega arith)
expr_up (suc m) (suc n) h w e p = (conditional_limit (two_limit (expr_at m) (expr_at n) (expr_up m n (omega arith)))).below 0 w e p

pub expr_limit : IsLimit expr_at expr
unfolding expr
expr_limit = record { up = expr_up; below = λ n w e p. (n, p); reach = λ w e p. p }

-- an expression is a conditional with expressions inside it
pub expr-conditional : Same expr (conditional expr)
unfolding expr
expr-conditional = record { to = λ w e p. to p.0 w e p.1; from = λ w e p. let i = (conditional_limit expr_limit).reach w e p in (suc i.0, i.1) }
  where
    to : (n : ℕ) (w : List Lexeme) (e : Expression) → expr_at n w e → conditional expr w e
    to zero w e p = absurd p
    to (suc n) w e p = (conditional_limit expr_limit).below n w e p

-- ---- words

pub prim_word : (E : Lang Expression) → HasWord (prim E)
unfolding prim truth
prim_word E = or_word _ _ (then_word (token_word (K.Word W.True)) (λ t. gives_word (Truth t.at true)))

over_word : (p : Option (Symbol × PrismOp)) (n : ℕ) (L : Lang Expression) → HasWord L → HasWord (over_prefix p n L)
unfolding chain prefixed
over_word (Some p) n L h = then_word (many_word (symbol p.0)) (λ ts. then_word h (λ e. gives_word (applied p.1 ts e)))
over_word None n L h = then_word h (λ e. folding_word joined_by (operand n L) e)

pub level_word : (E : Lang Expression) (k : ℕ) → HasWord (level E k)
level_word E zero = prim_word E
level_word E (suc k) = over_word (prefix_at k) k (level E k) (level_word E k)

pub conditional_word : (E : Lang Expression) → HasWord (conditional E)
unfolding conditional
conditional_word E = then_word (level_word E 10) (λ c. or_word _ _ (gives_word c))

pub expr_word : HasWord expr
expr_word = let h = conditional_word expr in (h.0, h.1, expr-conditional.from h.0 h.1 h.2)

-- ---- first tokens

opens_in : {A : Type 0} {L : Lang A} {P Q : TokenKind → Type 0} → Opens L P → ((k : TokenKind) → P k → Q k) → Opens L Q
opens_in o h w a p = let n = o w a p in (n.0, n.1, n.2, h (n.0).kind n.3)

or_opens_in : {A : Type 0} {L M : Lang A} (P : TokenKind → Type 0) → Opens L P → Opens M P → Opens (L or M) P
unfolding ◌or◌
or_opens_in P p q w a (inl h) = p w a h
or_opens_in P p q w a (inr h) = q w a h

abbrev pub IsNumber : TokenKind → Type 0
IsNumber k = (d : Decimal) × (k ≡ K.Number d)

number_kind : (t : Lexeme) (k : TokenKind) (e : Expression) → number_of t k ≡ Some e → IsNumber k
number_kind t (K.Number d) e h = (d, refl)
number_kind t k e h = cc

pub number_opens : Opens (token_with number_at) IsNumber
number_opens = token_with_opens number_at IsNumber (λ t e h. number_kind t t.kind e h)

pub truth_opens : (r : Reserved) (b : Bool) → Opens (truth r b) (λ k. k ≡ K.Word r)
unfolding truth
truth_opens r b = then_opens _ _ (token_opens (K.Word r))

pub name_opens : (E : Lang Expression) → Opens (name_or_call E) (λ k. k ≡ K.Ident)
unfolding name_or_call
name_opens E = then_opens _ _ (token_opens K.Ident)

pub parenthesised_opens : (E : Lang Expression) → Opens (parenthesised E) (λ k. k ≡ K.Symbol S.LeftParenthesis)
unfolding parenthesised
parenthesised_opens E = then_opens _ _ (token_opens (K.Symbol S.LeftParenthesis))

pub extremum_opens : (E : Lang Expression) (r : Reserved) (o : PrismOp) → Opens (extremum E r o) (λ k. k ≡ K.Word r)
unfolding extremum
extremum_opens E r o = then_opens _ _ (token_opens (K.Word r))

pub argument_opens : (E : Lang Expression) → Opens (argument E) (λ k. k ≡ K.Symbol S.Comma)
unfolding argument
argument_opens E = then_opens _ _ (token_opens (K.Symbol S.Comma))

pub choice_opens : (E : Lang Expression) (c : Expression) → Opens (choice E c) (λ k. k ≡ K.Symbol S.Question)
unfolding choice
choice_opens E c = then_opens _ _ (token_opens (K.Symbol S.Question))

differ_true : (k : TokenKind) → k ≡ K.Word W.True → (k ≡ K.Word W.False) ⊎ ((IsNumber k) ⊎ ((k ≡ K.Ident) ⊎ ((k ≡ K.Symbol S.LeftParenthesis) ⊎ ((k ≡ K.Word W.Min) ⊎ (k ≡ K.Word W.Max))))) → ⊥
differ_true k e (inl f) = let g : ◌≡◌ {A = TokenKind} (K.Word W.True) (K.Word W.False) = sym e ∙ f in cc
differ_true k e (inr (inl f)) = let g : ◌≡◌ {A = TokenKind} (K.Word W.True) (K.Number f.0) = sym e ∙ f.1 in cc
differ_true k e (inr (inr (inl f))) = let g : ◌≡◌ {A = TokenKind} (K.Word W.True) (K.Ident) = sym e ∙ f in cc
differ_true k e (inr (inr (inr (inl f)))) = let g : ◌≡◌ {A = TokenKind} (K.Word W.True) (K.Symbol S.LeftParenthesis) = sym e ∙ f in cc
differ_true k e (inr (inr (inr (inr (inl f))))) = let g : ◌≡◌ {A = TokenKind} (K.Word W.True) (K.Word W.Min) = sym e ∙ f in cc
differ_true k e (inr (inr (inr (inr (inr f))))) = let g : ◌≡◌ {A = TokenKind} (K.Word W.True) (K.Word W.Max) = sym e ∙ f in cc

differ_false : (k : TokenKind) → k ≡ K.Word W.False → (IsNumber k) ⊎ ((k ≡ K.Ident) ⊎ ((k ≡ K.Symbol S.LeftParenthesis) ⊎ ((k ≡ K.Word W.Min) ⊎ (k ≡ K.Word W.Max)))) → ⊥
differ_false k e (inl f) = let g : ◌≡◌ {A = TokenKind} (K.Word W.False) (K.Number f.0) = sym e ∙ f.1 in cc
differ_false k e (inr (inl f)) = let g : ◌≡◌ {A = TokenKind} (K.Word W.False) (K.Ident) = sym e ∙ f in cc
differ_false k e (inr (inr (inl f))) = let g : ◌≡◌ {A = TokenKind} (K.Word W.False) (K.Symbol S.LeftParenthesis) = sym e ∙ f in cc
differ_false k e (inr (inr (inr (inl f)))) = let g : ◌≡◌ {A = TokenKind} (K.Word W.False) (K.Word W.Min) = sym e ∙ f in cc
differ_false k e (inr (inr (inr (inr f)))) = let g : ◌≡◌ {A = TokenKind} (K.Word W.False) (K.Word W.Max) = sym e ∙ f in cc

differ_number : (k : TokenKind) → IsNumber k → (k ≡ K.Ident) ⊎ ((k ≡ K.Symbol S.LeftParenthesis) ⊎ ((k ≡ K.Word W.Min) ⊎ (k ≡ K.Word W.Max))) → ⊥
differ_number k e (inl f) = let g : ◌≡◌ {A = TokenKind} (K.Number e.0) (K.Ident) = sym e.1 ∙ f in cc
differ_number k e (inr (inl f)) = let g : ◌≡◌ {A = TokenKind} (K.Number e.0) (K.Symbol S.LeftParenthesis) = sym e.1 ∙ f in cc
differ_number k e (inr (inr (inl f))) = let g : ◌≡◌ {A = TokenKind} (K.Number e.0) (K.Word W.Min) = sym e.1 ∙ f in cc
differ_number k e (inr (inr (inr f))) = let g : ◌≡◌ {A = TokenKind} (K.Number e.0) (K.Word W.Max) = sym e.1 ∙ f in cc

differ_name : (k : TokenKind) → k ≡ K.Ident → (k ≡ K.Symbol S.LeftParenthesis) ⊎ ((k ≡ K.Word W.Min) ⊎ (k ≡ K.Word W.Max)) → ⊥
differ_name k e (inl f) = let g : ◌≡◌ {A = TokenKind} (K.Ident) (K.Symbol S.LeftParenthesis) = sym e ∙ f in cc
differ_name k e (inr (inl f)) = let g : ◌≡◌ {A = TokenKind} (K.Ident) (K.Word W.Min) = sym e ∙ f in cc
differ_name k e (inr (inr f)) = let g : ◌≡◌ {A = TokenKind} (K.Ident) (K.Word W.Max) = sym e ∙ f in cc

differ_parenthesis : (k : TokenKind) → k ≡ K.Symbol S.LeftParenthesis → (k ≡ K.Word W.Min) ⊎ (k ≡ K.Word W.Max) → ⊥
differ_parenthesis k e (inl f) = let g : ◌≡◌ {A = TokenKind} (K.Symbol S.LeftParenthesis) (K.Word W.Min) = sym e ∙ f in cc
differ_parenthesis k e (inr f) = let g : ◌≡◌ {A = TokenKind} (K.Symbol S.LeftParenthesis) (K.Word W.Max) = sym e ∙ f in cc

differ_min : (k : TokenKind) → k ≡ K.Word W.Min → k ≡ K.Word W.Max → ⊥
differ_min k e f = let g : ◌≡◌ {A = TokenKind} (K.Word W.Min) (K.Word W.Max) = sym e ∙ f in cc

-- ---- what goes on with a level

abbrev pub IsOperator : ℕ → TokenKind → Type 0
IsOperator n k = (o : PrismOp) × (at_level n (infix_of k) ≡ Some o)

pub operand_opens : (n : ℕ) (L : Lang Expression) → Opens (operand n L) (IsOperator n)
unfolding operand
operand_opens n L = then_opens _ (IsOperator n) (token_with_opens (operator_at n) (IsOperator n) (λ t o h. (o, h)))

found_step : (n : ℕ) (p : ℕ × PrismOp) (o : PrismOp) (b : Bool) → (p.0 == n) ≡ b → cond b (Some p.1) None ≡ Some o → (nat_lt p.0 (suc n) ≡ true) × (nat_lt p.0 n ≡ false)
found_step n p o true f g = let h : p.0 ≡ n = eqb-true p.0 n f in (grind (arith, nat_tests, h), grind (arith, nat_tests, h))
found_step n p o false f g = absurd cc

found : (n : ℕ) (p : Option (ℕ × PrismOp)) (o : PrismOp) → at_level n p ≡ Some o → (binds_below (suc n) p ≡ true) × (binds_below n p ≡ false)
found n None o e = absurd cc
found n (Some p) o e = found_step n p o (p.0 == n) refl e

lower : (n : ℕ) (p : Option (ℕ × PrismOp)) → binds_below (suc n) p ≡ false → binds_below n p ≡ false
lower n None e = refl
lower n (Some p) e = grind (arith, nat_tests, e)

-- an infix operator is no parenthesis
infix_not_open : (n : ℕ) (k : TokenKind) (o : PrismOp) → at_level n (infix_of k) ≡ Some o → is_symbol S.LeftParenthesis k ≡ false
infix_not_open n (K.Symbol S.LeftParenthesis) o e = cc
infix_not_open n (K.Symbol s) o e = refl
infix_not_open n k o e = cc

pub more_within : (n : ℕ) (k : TokenKind) → more (suc n) k ≡ false → more n k ≡ false
more_within n k e = or_from _ _ (first_false _ _ e) (lower n (infix_of k) (second_false (is_symbol S.LeftParenthesis k) _ e))

pub repeats : (n : ℕ) → Repeats (IsOperator n) (more n) (more (suc n))
repeats n = record {
  again = λ k h. or_right (is_symbol S.LeftParenthesis k) _ (found n (infix_of k) h.0 h.1).0;
  apart = λ k h. or_from _ _ (infix_not_open n k h.0 h.1) (found n (infix_of k) h.0 h.1).1;
  within = more_within n;
}

pub sign_repeats : (s : Symbol) → same_kind (K.Symbol s) (K.Symbol s) ≡ true → Repeats (λ k. k ≡ K.Symbol s) none (is_symbol s)
sign_repeats s same = record {
  again = λ k h. (let F : TokenKind → Type 0 = λ j. is_symbol s j ≡ true in subst F (sym h) same);
  apart = λ k h. refl;
  within = λ k h. refl;
}

pub comma_repeats : Repeats (λ k. k ≡ K.Symbol S.Comma) goes_on lists_on
comma_repeats = record {
  again = λ k h. rw h refl;
  apart = λ k h. rw h refl;
  within = λ k h. second_false (is_symbol S.Comma k) _ h;
}

-- ---- one reading

-- what follows may come in two parts
pub then_follows : {A B C : Type 0} {M : A → Lang B} {N : A → B → Lang C} (m : TokenKind → Bool) {k more' : TokenKind → Bool} → Follows k M m → ((x : A) → Follows m (N x) more') → Follows k (λ x. M x >>= N x) more'
unfolding ◌>>=◌
then_follows m {k} {more'} f g = record {
  ends = λ x w z y h e.
      let i = (f.ends x h.1 (h.2 ++ z) h.0 h.4 ((g x).ends h.0 h.2 z y h.5 e)) in
      let F : List Lexeme → Type 0 = λ u. Ends k u in
      subst F (sym (ap (λ (u : List Lexeme). u ++ z) h.3 ∙ append_assoc h.1 h.2 z)) i;
}

pub one_within : {A : Type 0} {L : Lang A} {m more' : TokenKind → Bool} → ((k : TokenKind) → more' k ≡ false → m k ≡ false) → IsOne L m → IsOne L more'
one_within {A} {L} {m} {more'} within l = record { one = λ w z v y a b p q e f g. l.one w z v y a b p q e (ends z f) (ends y g) }
  where
    ends : (z : List Lexeme) → Ends more' z → Ends m z
    ends [] h = tt
    ends (t ∷ z) h = within t.kind h

pub gives_follows : {A B : Type 0} (f : A → B) (m : TokenKind → Bool) → Follows m (λ e. gives (f e)) m
unfolding gives
gives_follows f m = record { ends = λ x w z y h e. let F : List Lexeme → Type 0 = λ u. Ends m (u ++ z) in subst F (sym h.0) e }

pub truth_one : (r : Reserved) (b : Bool) → IsOne (truth r b) (more 0)
unfolding truth
truth_one r b = step_one _ (token_one (K.Word r)) (λ t. gives_one (Truth t.at b) (more 0))

pub parenthesised_one : (E : Lang Expression) → IsOne E goes_on → IsOne (parenthesised E) (more 0)
unfolding parenthesised
parenthesised_one E l =
    step_one _ (token_one _) (λ t. then_one goes_on l (λ e. step_one _ (token_one _) (λ c. gives_one _ (more 0)))
    (token_follows goes_on (K.Symbol S.RightParenthesis) _ (more 0) refl))

pub argument_one : (E : Lang Expression) → IsOne E goes_on → IsOne (argument E) goes_on
unfolding argument
argument_one E l = step_one _ (token_one _) (λ t. l)

pub one_argument_one : (E : Lang Expression) (o : PrismOp) (at : ℕ) → IsOne E goes_on → IsOne (one_argument E o at) (more 0)
unfolding one_argument
one_argument_one E o at l =
    step_one _ (token_one _) (λ t. then_one goes_on l (λ e. step_one _ (token_one _) (λ c. gives_one _ (more 0)))
    (token_follows goes_on (K.Symbol S.RightParenthesis) _ (more 0) refl))

pub comma_not_on : (k : TokenKind) → k ≡ K.Symbol S.Comma → goes_on k ≡ false
comma_not_on k h = rw h refl

pub two_arguments_one : (E : Lang Expression) (o : PrismOp) (at : ℕ) → IsOne E goes_on → IsOne (two_arguments E o at) (more 0)
unfolding two_arguments
two_arguments_one E o at l =
    step_one _ (token_one _) (λ t. then_one goes_on l (λ a. then_one goes_on (argument_one E l) (λ b. step_one _ (token_one _) (λ c. gives_one _ (more 0)))
    (token_follows goes_on (K.Symbol S.RightParenthesis) _ (more 0) refl))
    (opens_follows goes_on (more 0) (λ a. then_opens _ _ (argument_opens E)) comma_not_on))

pub arguments_one : (E : Lang Expression) (f : Option PrismOp) (at : ℕ) → IsOne E goes_on → IsOne (arguments E f at) (more 0)
unfolding never
arguments_one E None at l = record { one = λ w z v y a b p. absurd p }
arguments_one E (Some O.Mod) at l = two_arguments_one E O.Mod at l
arguments_one E (Some o) at l = one_argument_one E o at l

pub arguments_opens : (E : Lang Expression) (f : Option PrismOp) (at : ℕ) → Opens (arguments E f at) (λ k. k ≡ K.Symbol S.LeftParenthesis)
unfolding never one_argument two_arguments
arguments_opens E None at w a p = absurd p
arguments_opens E (Some O.Mod) at w a p = then_opens _ _ (token_opens (K.Symbol S.LeftParenthesis)) w a p
arguments_opens E (Some o) at w a p = then_opens _ _ (token_opens (K.Symbol S.LeftParenthesis)) w a p

pub name_one : (E : Lang Expression) → IsOne E goes_on → IsOne (name_or_call E) (more 0)
unfolding name_or_call
name_one E l = step_one _ (token_one K.Ident) (λ t. gives_or_one (Name t.at t.text) (λ k. k ≡ K.Symbol S.LeftParenthesis) (arguments_opens E (function_of t.text) t.at) (λ k h. rw h refl) (arguments_one E (function_of t.text) t.at l))

pub extremum_one : (E : Lang Expression) (r : Reserved) (o : PrismOp) → IsOne E goes_on → IsOne (extremum E r o) (more 0)
unfolding extremum
extremum_one E r o l =
    step_one _ (token_one _) (λ t. step_one _ (token_one _) (λ p. then_one goes_on l (λ a. then_one goes_on (argument_one E l) (λ b.
    then_one lists_on (folding_one (λ x y. Two t.at o x y) (Two t.at o a b) (argument_opens E) comma_repeats (argument_one E l)) (λ e. step_one _ (token_one _) (λ c. gives_one e (more 0)))
    (token_follows lists_on (K.Symbol S.RightParenthesis) _ (more 0) refl))
    (then_follows lists_on (folding_follows (λ x y. Two t.at o x y) (argument_opens E) comma_repeats (λ b. Two t.at o a b)) (λ b. token_follows lists_on (K.Symbol S.RightParenthesis) _ (more 0) refl)))
    (opens_follows goes_on (more 0) (λ a. then_opens _ _ (argument_opens E)) comma_not_on)))

pub prim_one : (E : Lang Expression) → IsOne E goes_on → IsOne (prim E) (more 0)
unfolding prim
prim_one E l =
    or_one (λ k. k ≡ K.Word W.True) (λ k. (k ≡ K.Word W.False) ⊎ ((IsNumber k) ⊎ ((k ≡ K.Ident) ⊎ ((k ≡ K.Symbol S.LeftParenthesis) ⊎ ((k ≡ K.Word W.Min) ⊎ (k ≡ K.Word W.Max)))))) (truth_opens W.True true) (or_opens (λ k. k ≡ K.Word W.False) (λ k. (IsNumber k) ⊎ ((k ≡ K.Ident) ⊎ ((k ≡ K.Symbol S.LeftParenthesis) ⊎ ((k ≡ K.Word W.Min) ⊎ (k ≡ K.Word W.Max))))) (truth_opens W.False false) (or_opens (λ k. IsNumber k) (λ k. (k ≡ K.Ident) ⊎ ((k ≡ K.Symbol S.LeftParenthesis) ⊎ ((k ≡ K.Word W.Min) ⊎ (k ≡ K.Word W.Max)))) (number_opens) (or_opens (λ k. k ≡ K.Ident) (λ k. (k ≡ K.Symbol S.LeftParenthesis) ⊎ ((k ≡ K.Word W.Min) ⊎ (k ≡ K.Word W.Max))) (name_opens E) (or_opens (λ k. k ≡ K.Symbol S.LeftParenthesis) (λ k. (k ≡ K.Word W.Min) ⊎ (k ≡ K.Word W.Max)) (parenthesised_opens E) (or_opens (λ k. k ≡ K.Word W.Min) (λ k. k ≡ K.Word W.Max) (extremum_opens E W.Min O.Min) (extremum_opens E W.Max O.Max)))))) differ_true
    (truth_one W.True true)
    (or_one (λ k. k ≡ K.Word W.False) (λ k. (IsNumber k) ⊎ ((k ≡ K.Ident) ⊎ ((k ≡ K.Symbol S.LeftParenthesis) ⊎ ((k ≡ K.Word W.Min) ⊎ (k ≡ K.Word W.Max))))) (truth_opens W.False false) (or_opens (λ k. IsNumber k) (λ k. (k ≡ K.Ident) ⊎ ((k ≡ K.Symbol S.LeftParenthesis) ⊎ ((k ≡ K.Word W.Min) ⊎ (k ≡ K.Word W.Max)))) (number_opens) (or_opens (λ k. k ≡ K.Ident) (λ k. (k ≡ K.Symbol S.LeftParenthesis) ⊎ ((k ≡ K.Word W.Min) ⊎ (k ≡ K.Word W.Max))) (name_opens E) (or_opens (λ k. k ≡ K.Symbol S.LeftParenthesis) (λ k. (k ≡ K.Word W.Min) ⊎ (k ≡ K.Word W.Max)) (parenthesised_opens E) (or_opens (λ k. k ≡ K.Word W.Min) (λ k. k ≡ K.Word W.Max) (extremum_opens E W.Min O.Min) (extremum_opens E W.Max O.Max))))) differ_false
    (truth_one W.False false)
    (or_one (λ k. IsNumber k) (λ k. (k ≡ K.Ident) ⊎ ((k ≡ K.Symbol S.LeftParenthesis) ⊎ ((k ≡ K.Word W.Min) ⊎ (k ≡ K.Word W.Max)))) (number_opens) (or_opens (λ k. k ≡ K.Ident) (λ k. (k ≡ K.Symbol S.LeftParenthesis) ⊎ ((k ≡ K.Word W.Min) ⊎ (k ≡ K.Word W.Max))) (name_opens E) (or_opens (λ k. k ≡ K.Symbol S.LeftParenthesis) (λ k. (k ≡ K.Word W.Min) ⊎ (k ≡ K.Word W.Max)) (parenthesised_opens E) (or_opens (λ k. k ≡ K.Word W.Min) (λ k. k ≡ K.Word W.Max) (extremum_opens E W.Min O.Min) (extremum_opens E W.Max O.Max)))) differ_number
    (token_with_one number_at (more 0))
    (or_one (λ k. k ≡ K.Ident) (λ k. (k ≡ K.Symbol S.LeftParenthesis) ⊎ ((k ≡ K.Word W.Min) ⊎ (k ≡ K.Word W.Max))) (name_opens E) (or_opens (λ k. k ≡ K.Symbol S.LeftParenthesis) (λ k. (k ≡ K.Word W.Min) ⊎ (k ≡ K.Word W.Max)) (parenthesised_opens E) (or_opens (λ k. k ≡ K.Word W.Min) (λ k. k ≡ K.Word W.Max) (extremum_opens E W.Min O.Min) (extremum_opens E W.Max O.Max))) differ_name
    (name_one E l)
    (or_one (λ k. k ≡ K.Symbol S.LeftParenthesis) (λ k. (k ≡ K.Word W.Min) ⊎ (k ≡ K.Word W.Max)) (parenthesised_opens E) (or_opens (λ k. k ≡ K.Word W.Min) (λ k. k ≡ K.Word W.Max) (extremum_opens E W.Min O.Min) (extremum_opens E W.Max O.Max)) differ_parenthesis
    (parenthesised_one E l)
    (or_one (λ k. k ≡ K.Word W.Min) (λ k. k ≡ K.Word W.Max) (extremum_opens E W.Min O.Min) (extremum_opens E W.Max O.Max) differ_min
    (extremum_one E W.Min O.Min l)
    (extremum_one E W.Max O.Max l))))))

pub prim_opens : (E : Lang Expression) → Opens (prim E) (λ k. begins_prim k ≡ true)
unfolding prim
prim_opens E =
    or_opens_in (λ k. begins_prim k ≡ true) (opens_in (truth_opens W.True true) (λ k e. rw e refl))
    (or_opens_in _ (opens_in (truth_opens W.False false) (λ k e. rw e refl))
    (or_opens_in _ (opens_in number_opens (λ k e. rw (e.1) refl))
    (or_opens_in _ (opens_in (name_opens E) (λ k e. rw e refl))
    (or_opens_in _ (opens_in (parenthesised_opens E) (λ k e. rw e refl))
    (or_opens_in _ (opens_in (extremum_opens E W.Min O.Min) (λ k e. rw e refl))
    (opens_in (extremum_opens E W.Max O.Max) (λ k e. rw e refl)))))))

pub operand_one : (n : ℕ) (L : Lang Expression) → IsOne L (more n) → IsOne (operand n L) (more n)
unfolding operand
operand_one n L l = step_one _ (token_with_one (operator_at n) none) (λ o. then_one (more n) l (λ e. gives_one (o, e) (more n)) (gives_follows (λ e. (o, e)) (more n)))

pub chain_one : (n : ℕ) (L : Lang Expression) → IsOne L (more n) → IsOne (chain n L) (more (suc n))
unfolding chain
chain_one n L l = then_one (more n) l (λ e. folding_one joined_by e (operand_opens n L) (repeats n) (operand_one n L l)) (folding_follows joined_by (operand_opens n L) (repeats n) (λ e. e))

pub prefixed_one : (s : Symbol) (o : PrismOp) (L : Lang Expression) (P : TokenKind → Type 0) (m : TokenKind → Bool) → same_kind (K.Symbol s) (K.Symbol s) ≡ true →
    Opens L P → ((k : TokenKind) → P k → is_symbol s k ≡ false) → IsOne L m → IsOne (prefixed s o L) m
unfolding prefixed
prefixed_one s o L P m same opens apart l =
    then_one (is_symbol s) (many_one (token_opens (K.Symbol s)) (sign_repeats s same) (token_one (K.Symbol s))) (λ ts. then_one m l (λ e. gives_one (applied o ts e) m) (gives_follows (λ e. applied o ts e) m))
    (opens_follows (is_symbol s) m (λ ts. then_opens _ P opens) apart)

-- the levels that have a prefix
pub data IsPrefix (n : ℕ) (p : Symbol × PrismOp) : Type 0 where
  of_minus : n ≡ 0 → p ≡ (S.Minus, O.Neg) → IsPrefix n p
  of_not : n ≡ 5 → p ≡ (S.Not, O.Not) → IsPrefix n p

pub prefix_is : (n : ℕ) (p : Symbol × PrismOp) → prefix_at n ≡ Some p → IsPrefix n p
prefix_is n p h = by_tests (n == 0) (n == 5) refl refl h
  where
    by_tests : (a b : Bool) → (n == 0) ≡ a → (n == 5) ≡ b → (if a then Some (S.Minus, O.Neg) else if b then Some (S.Not, O.Not) else None) ≡ Some p → IsPrefix n p
    by_tests true b e f h = of_minus (eqb-true n 0 e) cc
    by_tests false true e f h = of_not (eqb-true n 5 f) cc
    by_tests false false e f h = cc

prim_no_minus : (k : TokenKind) → begins_prim k ≡ true → is_symbol S.Minus k ≡ false
prim_no_minus (K.Symbol S.LeftParenthesis) h = refl
prim_no_minus (K.Symbol s) h = cc
prim_no_minus k h = refl

prim_no_not : (k : TokenKind) → begins_prim k ≡ true → is_symbol S.Not k ≡ false
prim_no_not (K.Symbol S.LeftParenthesis) h = refl
prim_no_not (K.Symbol s) h = cc
prim_no_not k h = refl

pub none_no_minus : (n : ℕ) → n ≡ 0 → (k : TokenKind) → CanBegin n k → is_symbol S.Minus k ≡ false
none_no_minus n e k (operand_itself h) = prim_no_minus k h
none_no_minus n e k (minus_sign lt h) = absurd (omega arith)
none_no_minus n e k (not_sign lt h) = absurd (omega arith)

pub five_no_not : (n : ℕ) → n ≡ 5 → (k : TokenKind) → CanBegin n k → is_symbol S.Not k ≡ false
five_no_not n e k (operand_itself h) = prim_no_not k h
five_no_not n e k (minus_sign lt h) = rw h refl
five_no_not n e k (not_sign lt h) = absurd (omega arith)

begin_up : (n : ℕ) (k : TokenKind) → CanBegin n k → CanBegin (suc n) k
begin_up n k (operand_itself h) = operand_itself h
begin_up n k (minus_sign lt h) = minus_sign (omega arith) h
begin_up n k (not_sign lt h) = not_sign (omega arith) h

sign_or_begin : (n : ℕ) (p : Symbol × PrismOp) → IsPrefix n p → (k : TokenKind) → (k ≡ K.Symbol p.0) ⊎ CanBegin n k → CanBegin (suc n) k
sign_or_begin n p (of_minus e f) k (inl h) = minus_sign (omega arith) (h ∙ ap (λ (q : Symbol × PrismOp). K.Symbol q.0) f)
sign_or_begin n p (of_not e f) k (inl h) = not_sign (omega arith) (h ∙ ap (λ (q : Symbol × PrismOp). K.Symbol q.0) f)
sign_or_begin n p i k (inr h) = begin_up n k h

over_opens : (p : Option (Symbol × PrismOp)) (n : ℕ) (L : Lang Expression) → prefix_at n ≡ p → Opens L (CanBegin n) → Opens (over_prefix p n L) (CanBegin (suc n))
unfolding prefixed chain
over_opens (Some p) n L e o = opens_in (many_then_opens (λ k. k ≡ K.Symbol p.0) (CanBegin n) (token_opens (K.Symbol p.0)) (λ ts. then_opens _ (CanBegin n) o)) (sign_or_begin n p (prefix_is n p e))
over_opens None n L e o = opens_in (then_opens _ (CanBegin n) o) (begin_up n)

pub level_opens : (E : Lang Expression) (n : ℕ) → Opens (level E n) (CanBegin n)
level_opens E zero = opens_in (prim_opens E) (λ k h. operand_itself h)
level_opens E (suc n) = over_opens (prefix_at n) n (level E n) refl (level_opens E n)

pub over_one : (p : Option (Symbol × PrismOp)) (n : ℕ) (L : Lang Expression) → prefix_at n ≡ p → Opens L (CanBegin n) → IsOne L (more n) → IsOne (over_prefix p n L) (more (suc n))
over_one (Some p) n L e o l = by_prefix (prefix_is n p e)
  where
    by_prefix : IsPrefix n p → IsOne (prefixed p.0 p.1 L) (more (suc n))
    by_prefix (of_minus f g) = one_within (more_within n) (rw g (prefixed_one S.Minus O.Neg L (CanBegin n) (more n) refl o (none_no_minus n f) l))
    by_prefix (of_not f g) = one_within (more_within n) (rw g (prefixed_one S.Not O.Not L (CanBegin n) (more n) refl o (five_no_not n f) l))
over_one None n L e o l = chain_one n L l

pub level_one : (E : Lang Expression) (k : ℕ) → IsOne E goes_on → IsOne (level E k) (more k)
level_one E zero l = prim_one E l
level_one E (suc k) l = over_one (prefix_at k) k (level E k) refl (level_opens E k) (level_one E k l)

pub choice_one : (E : Lang Expression) (c : Expression) → IsOne E goes_on → IsOne (choice E c) goes_on
unfolding choice
choice_one E c l =
    step_one _ (token_one _) (λ q. then_one goes_on l (λ a. step_one _ (token_one _) (λ k. then_one goes_on l (λ b. gives_one _ goes_on) (gives_follows (λ b. Three (offset_of c) O.Ite c a b) goes_on)))
    (token_follows goes_on (K.Symbol S.Colon) _ goes_on refl))

question_on : (k : TokenKind) → k ≡ K.Symbol S.Question → goes_on k ≡ true
question_on k h = rw h refl

question_no_more : (k : TokenKind) → k ≡ K.Symbol S.Question → more 10 k ≡ false
question_no_more k h = rw h refl

pub rest_follows : (E : Lang Expression) → Follows (more 10) (λ c. gives c or choice E c) goes_on
unfolding ◌or◌ gives
rest_follows E = record { ends = λ c w z y h e. go c w z y h e }
  where
    within : (z : List Lexeme) → Ends goes_on z → Ends (more 10) z
    within [] e = tt
    within (t ∷ z) e = second_false (is_symbol S.Question t.kind) _ e

    go : (c : Expression) (w z : List Lexeme) (y : Expression) → ((w ≡ []) × (y ≡ c)) ⊎ choice E c w y → Ends goes_on z → Ends (more 10) (w ++ z)
    go c w z y (inl h) e = let F : List Lexeme → Type 0 = λ u. Ends (more 10) (u ++ z) in subst F (sym h.0) (within z e)
    go c w z y (inr h) e =
        let n = choice_opens E c w y h in
        let F : List Lexeme → Type 0 = λ u. Ends (more 10) (u ++ z) in
        subst F (sym n.2) (question_no_more (n.0).kind n.3)

pub conditional_one : (E : Lang Expression) → IsOne E goes_on → IsOne (conditional E) goes_on
unfolding conditional
conditional_one E l =
    then_one (more 10) (level_one E 10 l) (λ c. gives_or_one c (λ k. k ≡ K.Symbol S.Question) (choice_opens E c) question_on (choice_one E c l)) (rest_follows E)

at_one : (n : ℕ) → IsOne (expr_at n) goes_on
at_one zero = record { one = λ w z v y a b p. absurd p }
at_one (suc n) = record { one = λ w z v y a b. (conditional_one (expr_at n) (at_one n)).one w z v y a b }

pub expr_one : IsOne expr goes_on
unfolding expr
expr_one = record {
  one = λ w z v y a b p q.
      let k = p.0 + q.0 in
      (at_one k).one w z v y a b (expr_up p.0 k (omega arith) w a p.1) (expr_up q.0 k (omega arith) v b q.1);
}
