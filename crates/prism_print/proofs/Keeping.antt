-- What the values have that tokens spell, where something holds of each token: parser by parser, and then for expressions.
use Rattle.std.proofs.Common.{◌≡◌, ℕ, zero, suc, Bool, true, false, cond, List, [], ◌∷◌, ◌++◌, Option, Some, None, refl, sym, ap, subst, ◌∙◌, inl, inr}
use Rattle.std.specs.Prelude.{◌⊎◌, ◌==◌, codes}
use Rattle.std.specs.Str.{bytes_eq}
use Rattle.std.specs.List.{AllByRecursion as Each}
use Rattle.basics.specs.Each.{each_parts}
use Rattle.basics.specs.Options.{IfAny}
use Rattle.frac_core.specs.declared.decimal.Decimal.{Decimal}
use Rattle.op_trees.specs.Tree.{Truth, Number, Name, One, Two, Three}
use Rattle.prism_lex.specs.declared.token.TokenKind.{TokenKind}
use Rattle.prism_lex.specs.declared.token.TokenKind.TheVariants as K
use Rattle.prism_lex.specs.declared.words.Reserved.{Reserved}
use Rattle.prism_lex.specs.declared.symbols.Symbol.{Symbol}
use Rattle.prism_lex.specs.declared.symbols.Symbol.TheVariants as S
use Rattle.prism_lex.specs.Tokens.{Lexeme}
use Rattle.prism_tree.specs.declared.operator.PrismOp.{PrismOp}
use Rattle.prism_tree.specs.declared.operator.PrismOp.TheVariants as O
use Rattle.prism_tree.specs.Operators.{arity}
use Rattle.prism_tree.specs.Syntax.{Expression, moved}
use Rattle.prism_tree.specs.Lang.{Lang, token, token_with, gives, never, ◌>>=◌, ◌or◌, optional, many, folding, fold_left}
use Rattle.prism_tree.specs.Grammar.{infix_at, infix_of, at_level, operator_at, joined_by, applied, operand, chain, prefixed, over_prefix, function_of, number_of, number_at, truth, parenthesised, argument, one_argument, two_arguments, arguments, name_or_call, extremum, prim, level, choice, conditional, expr_at, expr}

-- the values that such tokens spell have P
pub record Keeps (Holds : Lexeme → Type 0) {A : Type 0} (L : Lang A) (P : A → Type 0) : Type 0 where
  pub keeps : (w : List Lexeme) (x : A) → Each Holds w → L w x → P x

module _ (Holds : Lexeme → Type 0) where
  split : (w a b : List Lexeme) → w ≡ a ++ b → Each Holds w → Each Holds a × Each Holds b
  split w a b e h = let F : List Lexeme → Type 0 = λ u. Each Holds u in each_parts Holds a b (subst F e h)

  one_lexeme : (w : List Lexeme) (t : Lexeme) → w ≡ t ∷ [] → Each Holds w → Holds t
  one_lexeme w t e h = let F : List Lexeme → Type 0 = λ u. Each Holds u in (subst F e h).0

module _ {Holds : Lexeme → Type 0} where
  pub then_keeps : {A B : Type 0} {L : Lang A} {M : A → Lang B} {P : A → Type 0} {Q : B → Type 0} → Keeps Holds L P → ((x : A) → P x → Keeps Holds (M x) Q) → Keeps Holds (L >>= M) Q
  unfolding ◌>>=◌
  then_keeps l m = record { keeps = λ w y e h. let s = split Holds w h.1 h.2 h.3 e in (m h.0 (l.keeps h.1 h.0 s.0 h.4)).keeps h.2 y s.1 h.5 }

  pub gives_keeps : {A : Type 0} {P : A → Type 0} (a : A) → P a → Keeps Holds (gives a) P
  unfolding gives
  gives_keeps {A} {P} a p = record { keeps = λ w x e h. subst P (sym h.1) p }

  pub never_keeps : {A : Type 0} {P : A → Type 0} → Keeps Holds never P
  unfolding never
  never_keeps = record { keeps = λ w x e h. absurd h }

  pub or_keeps : {A : Type 0} {L M : Lang A} {P : A → Type 0} → Keeps Holds L P → Keeps Holds M P → Keeps Holds (L or M) P
  unfolding ◌or◌
  or_keeps {A} {L} {M} {P} l m = record { keeps = λ w x e h. go w x e h }
    where
      go : (w : List Lexeme) (x : A) → Each Holds w → L w x ⊎ M w x → P x
      go w x e (inl h) = l.keeps w x e h
      go w x e (inr h) = m.keeps w x e h

  -- whatever it is
  pub any_keeps : {A : Type 0} (L : Lang A) → Keeps Holds L (λ x. Unit {0})
  any_keeps L = record { keeps = λ w x e h. tt }

  pub any_then : {A B : Type 0} (L : Lang A) {M : A → Lang B} {P : B → Type 0} → ((x : A) → Keeps Holds (M x) P) → Keeps Holds (L >>= M) P
  any_then L m = then_keeps (any_keeps L) (λ x u. m x)

  pub token_keeps : (k : TokenKind) → Keeps Holds (token k) (λ t. Holds t × (t.kind ≡ k))
  unfolding token
  token_keeps k = record { keeps = λ w t e h. (one_lexeme Holds w t h.0 e, h.1) }

  pub token_with_keeps : {A : Type 0} {P : A → Type 0} (meaning : Lexeme → Option A) → ((t : Lexeme) (a : A) → Holds t → meaning t ≡ Some a → P a) → Keeps Holds (token_with meaning) P
  unfolding token_with
  token_with_keeps meaning f = record { keeps = λ w a e h. f h.0 a (one_lexeme Holds w h.0 h.1 e) h.2 }

  pub many_keeps : {A : Type 0} (L : Lang A) {P : A → Type 0} → Keeps Holds L P → Keeps Holds (many L) (Each P)
  unfolding many
  many_keeps {A} L {P} l = record { keeps = λ w xs e h. go xs w e h }
    where
      go : (xs : List A) (w : List Lexeme) → Each Holds w → many L w xs → Each P xs
      go [] w e h = tt
      go (x ∷ xs) w e h = let s = split Holds w h.0 h.1 h.2 e in (l.keeps h.0 x s.0 h.3, go xs h.1 s.1 h.4)

  pub folding_keeps : {S A : Type 0} (L : Lang A) {P : A → Type 0} (Q : S → Type 0) (f : S → A → S) (s : S) → Keeps Holds L P → Q s → ((s : S) (x : A) → Q s → P x → Q (f s x)) → Keeps Holds (folding f L s) Q
  unfolding folding
  folding_keeps {S} {A} L {P} Q f s l q g = then_keeps (many_keeps L l) (λ xs e. gives_keeps (fold_left f s xs) (go xs s e q))
    where
      go : (xs : List A) (s : S) → Each P xs → Q s → Q (fold_left f s xs)
      go [] s e q = q
      go (x ∷ xs) s e q = go xs (f s x) e.1 (g s x q e.0)

  pub optional_keeps : {A : Type 0} {L : Lang A} {P : A → Type 0} → Keeps Holds L P → Keeps Holds (optional L) (IfAny P)
  optional_keeps l = or_keeps (gives_keeps None tt) (then_keeps l (λ x p. gives_keeps (Some x) p))

-- ---- expressions

-- the operators between operands take two
abbrev TakesTwo : Option (ℕ × PrismOp) → Type 0
TakesTwo None = Unit {0}
TakesTwo (Some p) = arity p.1 ≡ 2

infix_two : (s : Symbol) → TakesTwo (infix_at s)
infix_two S.Star = refl
infix_two S.Slash = refl
infix_two S.Plus = refl
infix_two S.Minus = refl
infix_two S.Less = refl
infix_two S.AtMost = refl
infix_two S.AtLeast = refl
infix_two S.Greater = refl
infix_two S.Equal = refl
infix_two S.Unequal = refl
infix_two S.And = refl
infix_two S.Or = refl
infix_two S.Iff = refl
infix_two S.Implies = refl
infix_two s = tt

kind_two : (k : TokenKind) → TakesTwo (infix_of k)
kind_two (K.Symbol s) = infix_two s
kind_two k = tt

level_two : (n : ℕ) (q : Option (ℕ × PrismOp)) (o : PrismOp) → TakesTwo q → at_level n q ≡ Some o → arity o ≡ 2
level_two n None o h e = absurd cc
level_two n (Some p) o h e = go (p.0 == n) e
  where
    go : (t : Bool) → cond t (Some p.1) None ≡ Some o → arity o ≡ 2
    go true e = let i : p.1 ≡ o = cc in sym (ap arity i) ∙ h
    go false e = absurd cc

-- the functions that names are
abbrev IsFunction : Option PrismOp → Type 0
IsFunction None = Unit {0}
IsFunction (Some o) = (o ≡ O.Floor) ⊎ ((o ≡ O.Ceil) ⊎ (o ≡ O.Mod))

function_is : (x : List ℕ) → IsFunction (function_of x)
function_is x = go (bytes_eq (codes "floor") x) (bytes_eq (codes "ceil") x) (bytes_eq (codes "mod") x)
  where
    go : (a b c : Bool) → IsFunction (cond a (Some O.Floor) (cond b (Some O.Ceil) (cond c (Some O.Mod) None)))
    go true b c = inl refl
    go false true c = inr (inl refl)
    go false false true = inr (inr refl)
    go false false false = tt

-- What is Good of each expression that such tokens spell: of those that are one token, and of nodes over operands of which it is.
pub record IsKept (Holds : Lexeme → Type 0) (Good : Expression → Type 0) : Type 0 where
  pub a_truth : (at : ℕ) (b : Bool) → Good (Truth at b)
  pub a_number : (t : Lexeme) (d : Decimal) → Holds t → t.kind ≡ K.Number d → Good (Number t.at d)
  pub a_name : (t : Lexeme) → Holds t → t.kind ≡ K.Ident → Good (Name t.at t.text)
  pub over_one : (at : ℕ) (o : PrismOp) (a : Expression) → arity o ≡ 1 → Good a → Good (One at o a)
  pub over_two : (at : ℕ) (o : PrismOp) (a b : Expression) → arity o ≡ 2 → Good a → Good b → Good (Two at o a b)
  pub over_three : (at : ℕ) (o : PrismOp) (a b c : Expression) → arity o ≡ 3 → Good a → Good b → Good c → Good (Three at o a b c)
  pub elsewhere : (at : ℕ) (e : Expression) → Good e → Good (moved at e)

module _ {Holds : Lexeme → Type 0} {Good : Expression → Type 0} (kept : IsKept Holds Good) where
  number_good : (t : Lexeme) (k : TokenKind) (e : Expression) → t.kind ≡ k → Holds t → number_of t k ≡ Some e → Good e
  number_good t (K.Number d) e q h f =
      let i : Number t.at d ≡ e = cc in
      subst Good i (kept.a_number t d h q)
  number_good t k e q h f = absurd cc

  module _ (E : Lang Expression) (l : Keeps Holds E Good) where
    argument_keeps : Keeps Holds (argument E) Good
    unfolding argument
    argument_keeps = any_then _ (λ t. l)

    one_keeps : (o : PrismOp) (at : ℕ) → arity o ≡ 1 → Keeps Holds (one_argument E o at) Good
    unfolding one_argument
    one_keeps o at a = any_then _ (λ t. then_keeps l (λ x p. any_then _ (λ u. gives_keeps (One at o x) (kept.over_one at o x a p))))

    two_keeps : (o : PrismOp) (at : ℕ) → arity o ≡ 2 → Keeps Holds (two_arguments E o at) Good
    unfolding two_arguments
    two_keeps o at a =
        any_then _ (λ t. then_keeps l (λ x p. then_keeps argument_keeps (λ y q. any_then _ (λ u. gives_keeps (Two at o x y) (kept.over_two at o x y a p q)))))

    arguments_keep : (q : Option PrismOp) (at : ℕ) → IsFunction q → Keeps Holds (arguments E q at) Good
    arguments_keep None at h = never_keeps
    arguments_keep (Some o) at (inl h) = let F : PrismOp → Type 0 = λ u. Keeps Holds (arguments E (Some u) at) Good in subst F (sym h) (one_keeps O.Floor at refl)
    arguments_keep (Some o) at (inr (inl h)) = let F : PrismOp → Type 0 = λ u. Keeps Holds (arguments E (Some u) at) Good in subst F (sym h) (one_keeps O.Ceil at refl)
    arguments_keep (Some o) at (inr (inr h)) = let F : PrismOp → Type 0 = λ u. Keeps Holds (arguments E (Some u) at) Good in subst F (sym h) (two_keeps O.Mod at refl)

    name_keeps : Keeps Holds (name_or_call E) Good
    unfolding name_or_call
    name_keeps = then_keeps (token_keeps K.Ident) (λ t h. or_keeps (gives_keeps (Name t.at t.text) (kept.a_name t h.0 h.1)) (arguments_keep (function_of t.text) t.at (function_is t.text)))

    parenthesised_keeps : Keeps Holds (parenthesised E) Good
    unfolding parenthesised
    parenthesised_keeps = any_then _ (λ t. then_keeps l (λ x p. any_then _ (λ u. gives_keeps (moved t.at x) (kept.elsewhere t.at x p))))

    extremum_keeps : (r : Reserved) (o : PrismOp) → arity o ≡ 2 → Keeps Holds (extremum E r o) Good
    unfolding extremum
    extremum_keeps r o a =
        any_then _ (λ t. any_then _ (λ u. then_keeps l (λ x p. then_keeps argument_keeps (λ y q.
        then_keeps (folding_keeps (argument E) Good (λ v w. Two t.at o v w) (Two t.at o x y) argument_keeps (kept.over_two t.at o x y a p q) (λ v w b c. kept.over_two t.at o v w a b c))
        (λ z c. any_then _ (λ v. gives_keeps z c))))))

    truth_keeps : (r : Reserved) (b : Bool) → Keeps Holds (truth r b) Good
    unfolding truth
    truth_keeps r b = any_then _ (λ t. gives_keeps (Truth t.at b) (kept.a_truth t.at b))

    pub prim_keeps : Keeps Holds (prim E) Good
    unfolding prim
    prim_keeps =
        or_keeps (truth_keeps _ true) (or_keeps (truth_keeps _ false) (or_keeps (token_with_keeps number_at (λ t e h f. number_good t t.kind e refl h f)) (or_keeps name_keeps (or_keeps parenthesised_keeps
        (or_keeps (extremum_keeps _ O.Min refl) (extremum_keeps _ O.Max refl))))))

    applied_good : (o : PrismOp) (ts : List Lexeme) (e : Expression) → arity o ≡ 1 → Good e → Good (applied o ts e)
    applied_good o [] e a p = p
    applied_good o (t ∷ ts) e a p = kept.over_one t.at o (applied o ts e) a (applied_good o ts e a p)

    prefixed_keeps : (s : Symbol) (o : PrismOp) (L : Lang Expression) → arity o ≡ 1 → Keeps Holds L Good → Keeps Holds (prefixed s o L) Good
    unfolding prefixed
    prefixed_keeps s o L a m = any_then _ (λ ts. then_keeps m (λ e p. gives_keeps (applied o ts e) (applied_good o ts e a p)))

    operand_keeps : (n : ℕ) (L : Lang Expression) → Keeps Holds L Good → Keeps Holds (operand n L) (λ y. (arity y.0 ≡ 2) × Good y.1)
    unfolding operand
    operand_keeps n L m = then_keeps (token_with_keeps (operator_at n) (λ t o h e. level_two n (infix_of t.kind) o (kind_two t.kind) e)) (λ o a. then_keeps m (λ e p. gives_keeps (o, e) (a, p)))

    chain_keeps : (n : ℕ) (L : Lang Expression) → Keeps Holds L Good → Keeps Holds (chain n L) Good
    unfolding chain
    chain_keeps n L m = then_keeps m (λ a p. folding_keeps (operand n L) Good joined_by a (operand_keeps n L m) p (λ x y q r. kept.over_two _ y.0 x y.1 r.0 q r.1))

    level_keeps : (n : ℕ) → Keeps Holds (level E n) Good
    level_keeps zero = prim_keeps
    level_keeps (suc n) = go (n == 0) (n == 5) (level_keeps n)
      where
        go : (a b : Bool) → Keeps Holds (level E n) Good → Keeps Holds (over_prefix (cond a (Some (S.Minus, O.Neg)) (cond b (Some (S.Not, O.Not)) None)) n (level E n)) Good
        go true b m = prefixed_keeps S.Minus O.Neg (level E n) refl m
        go false true m = prefixed_keeps S.Not O.Not (level E n) refl m
        go false false m = chain_keeps n (level E n) m

    choice_keeps : (c : Expression) → Good c → Keeps Holds (choice E c) Good
    unfolding choice
    choice_keeps c p = any_then _ (λ t. then_keeps l (λ a q. any_then _ (λ u. then_keeps l (λ b r. gives_keeps (Three _ O.Ite c a b) (kept.over_three _ O.Ite c a b refl p q r)))))

    conditional_keeps : Keeps Holds (conditional E) Good
    unfolding conditional
    conditional_keeps = then_keeps (level_keeps 10) (λ c p. or_keeps (gives_keeps c p) (choice_keeps c p))

  expr_at_keeps : (n : ℕ) → Keeps Holds (expr_at n) Good
  expr_at_keeps zero = record { keeps = λ w e h p. absurd p }
  expr_at_keeps (suc n) = conditional_keeps (expr_at n) (expr_at_keeps n)

  pub expr_keeps : Keeps Holds expr Good
  unfolding expr
  expr_keeps = record { keeps = λ w e h p. (expr_at_keeps p.0).keeps w e h p.1 }
