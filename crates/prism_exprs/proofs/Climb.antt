-- Reading chains and signs, and climbing from level to level.
use Rattle.std.proofs.Common.{cond, ◌≡◌, ℕ, zero, suc, ◌<◌, ◌≤◌, Bool, true, false, List, [], ◌∷◌, Option, Some, None, refl, sym, ap, subst, arith, inl, inr}
use Rattle.std.proofs.lemmas.Bool.{cases_lt, eqb-true, or_from}
use Rattle.std.proofs.lemmas.Bool.Decides.{nat_tests}
use Rattle.std.specs.Prelude.{◌⊎◌, ◌==◌, nat_lt, if◌then◌else◌}
use Rattle.basics.specs.Booleans.{first_false, second_false}
use Rattle.op_trees.specs.Tree.{Two}
use Rattle.op_trees.specs.Names.{offset_of}
use Rattle.prism_lex.specs.declared.token.TokenKind.{TokenKind}
use Rattle.prism_lex.specs.declared.token.TokenKind.TheVariants as K
use Rattle.prism_lex.specs.declared.symbols.Symbol.{Symbol}
use Rattle.prism_lex.specs.declared.symbols.Symbol.TheVariants as S
use Rattle.prism_lex.specs.Tokens.{Lexeme}
use Rattle.prism_tree.specs.declared.operator.PrismOp.{PrismOp}
use Rattle.prism_tree.specs.declared.operator.PrismOp.TheVariants as O
use Rattle.prism_exprs.specs.declared.tokens.Stop.{Stop}
use Rattle.prism_exprs.specs.declared.tokens.Stop.TheVariants.{Memory, At}
use Rattle.prism_tree.specs.Syntax.{Expression}
use Rattle.prism_tree.specs.Lang.{Lang, gives, many, token_with}
use Rattle.prism_exprs.specs.Reading.{Ends, none, Reads, Stops, same_kind}
use Rattle.prism_tree.specs.Grammar.{symbol, infix_of, at_level, operator_at, prefix_at, joined_by, applied, operand, chain, prefixed, over_prefix, level, expr}
use Rattle.prism_exprs.specs.Levels.{is_symbol, binds_below, more, CanBegin, others}
use Rattle.prism_exprs.proofs.Laws.{none_ends, then_reads, then_stops, then_stops_later, step_reads, step_stops_later, token_one, token_with_one, gives_word}
use Rattle.prism_exprs.proofs.Choice.{FirstIs, many_one, folding_word, folding_follows, opens_follows, token_opens, then_opens}
use Rattle.prism_exprs.proofs.Loops.{Leads, then_leads, folding_reads, folding_leads, folding_stops}
use Rattle.prism_exprs.proofs.Exprs.{operand_opens, operand_one, repeats, sign_repeats, level_one, level_opens, expr_one, gives_follows, more_within, none_no_minus, five_no_not}

-- ---- the levels without a prefix

pub prefix_none : (n : ℕ) → (n ≡ 0 → ⊥) → (n ≡ 5 → ⊥) → prefix_at n ≡ None
prefix_none n h k = by_tests (n == 0) (n == 5) refl refl
  where
    by_tests : (a b : Bool) → (n == 0) ≡ a → (n == 5) ≡ b → ◌≡◌ {A = Option (Symbol × PrismOp)} (if a then Some (S.Minus, O.Neg) else if b then Some (S.Not, O.Not) else None) None
    by_tests true b e f = absurd (h (eqb-true n 0 e))
    by_tests false true e f = absurd (k (eqb-true n 5 f))
    by_tests false false e f = refl

-- a level that is a chain over the one below
pub level-chain : (n : ℕ) → prefix_at n ≡ None → level expr (suc n) ≡ chain n (level expr n)
level-chain n e = ap (λ (p : Option (Symbol × PrismOp)). over_prefix p n (level expr n)) e

up_step : (n : ℕ) (p : ℕ × PrismOp) (b : Bool) → (p.0 == n) ≡ b → cond b (Some p.1) None ≡ None → nat_lt p.0 n ≡ false → nat_lt p.0 (suc n) ≡ false
up_step n p true g h f = absurd cc
up_step n p false g h f = grind (arith, nat_tests, f, g)

none_up_to : (n : ℕ) (p : Option (ℕ × PrismOp)) → at_level n p ≡ None → binds_below n p ≡ false → binds_below (suc n) p ≡ false
none_up_to n None e f = refl
none_up_to n (Some p) e f = up_step n p (p.0 == n) refl e f

more_up : (n : ℕ) (k : TokenKind) → at_level n (infix_of k) ≡ None → more n k ≡ false → more (suc n) k ≡ false
more_up n k e f = or_from _ _ (first_false _ _ f) (none_up_to n (infix_of k) e (second_false (is_symbol S.LeftParenthesis k) _ f))

-- ---- chains

operand_reads : (n : ℕ) (t : Lexeme) (us vs : List Lexeme) (op : PrismOp) (y : Expression) → operator_at n t ≡ Some op → Reads (level expr n) (more n) us y vs → Reads (operand n (level expr n)) (more n) (t ∷ us) (op, y) vs
unfolding operand token_with gives
operand_reads n t us vs op y m p = step_reads _ {x = op} (record { word = t ∷ []; parts = refl; spells = (t, refl, m); ends = none_ends us }) (then_reads _ p (record { word = []; parts = refl; spells = (refl, refl); ends = p.ends }))

-- No operator of the level stands next.
pub chain_end : (n : ℕ) (ts : List Lexeme) (x : Expression) → Ends (more n) ts → FirstIs (λ k. at_level n (infix_of k) ≡ None) ts → Reads (others n x) (more (suc n)) ts x ts
chain_end n ts x e f = folding_reads joined_by (operand n (level expr n)) x ts (go ts e f)
  where
    go : (ts : List Lexeme) → Ends (more n) ts → FirstIs (λ k. at_level n (infix_of k) ≡ None) ts → Ends (more (suc n)) ts
    go [] e f = tt
    go (t ∷ ts) e f = more_up n t.kind (f t ts refl) e

-- An operator of the level and its operand were read.
pub chain_lead : (n : ℕ) (t : Lexeme) (us vs : List Lexeme) (op : PrismOp) (x y : Expression) → operator_at n t ≡ Some op → Reads (level expr n) (more n) us y vs →
    Leads (more (suc n)) (others n x) (t ∷ us) (others n (Two (offset_of x) op x y)) vs
chain_lead n t us vs op x y m p = folding_leads joined_by x (op, y) (operand_opens n (level expr n)) (repeats n) (operand_one n (level expr n) (level_one expr n expr_one)) (operand_reads n t us vs op y m p)

-- The operand behind an operator of the level fails.
pub operand_stops : (n : ℕ) (t : Lexeme) (us : List Lexeme) (op : PrismOp) (x : Expression) (e : Stop) → operator_at n t ≡ Some op → Stops (level expr n) (more n) us e → Stops (others n x) (more (suc n)) (t ∷ us) e
unfolding operand token_with
operand_stops n t us op x e m p =
    folding_stops joined_by x t us e (operand_opens n (level expr n)) (repeats n) ((repeats n).again t.kind (op, m))
    (step_stops_later _ (more n) e (token_with_one (operator_at n) none) (record { word = t ∷ []; parts = refl; spells = (t, refl, m); ends = none_ends us })
    (then_stops (level expr n) _ (more n) (more n) us e (λ y. gives_word (op, y)) (gives_follows (λ y. (op, y)) (more n)) p))

-- ---- climbing

next_leads : (n : ℕ) (ts us : List Lexeme) (x : Expression) → Reads (level expr n) (more n) ts x us → Leads (more (suc n)) (chain n (level expr n)) ts (others n x) us
unfolding chain
next_leads n ts us x p = then_leads (others n) (more n) (more (suc n)) (level_one expr n expr_one) (folding_follows joined_by (operand_opens n (level expr n)) (repeats n) (λ x. x)) p

pub stops_up : (n : ℕ) (ts : List Lexeme) (e : Stop) → prefix_at n ≡ None → Stops (level expr n) (more n) ts e → Stops (level expr (suc n)) (more (suc n)) ts e
unfolding chain
stops_up n ts e h p =
    let F : Lang Expression → Type 0 = λ L. Stops L (more (suc n)) ts e in
    subst F (sym (level-chain n h)) (then_stops (level expr n) (others n) (more n) (more (suc n)) ts e (λ x. folding_word joined_by (operand n (level expr n)) x) (folding_follows joined_by (operand_opens n (level expr n)) (repeats n) (λ x. x)) p)

-- None of the levels from n on and below h has a prefix.
abbrev pub IsPlain : ℕ → ℕ → Type 0
IsPlain n h = (k : ℕ) → n ≤ k → k < h → prefix_at k ≡ None

-- What fails at a level fails at a higher one, where none between them has a prefix.
pub climb_stops : (h n : ℕ) (ts : List Lexeme) (e : Stop) → n ≤ h → IsPlain n h → Stops (level expr n) (more n) ts e → Stops (level expr h) (more h) ts e
climb_stops h n ts e le plain p = by_order h le plain (cases_lt n h)
  where
    by_order : (h : ℕ) → n ≤ h → IsPlain n h → (n < h) ⊎ (h ≤ n) → Stops (level expr h) (more h) ts e
    by_order h le plain (inr f) = let g : n ≡ h = omega arith in let F : ℕ → Type 0 = λ k. Stops (level expr k) (more k) ts e in subst F g p
    by_order zero le plain (inl f) = absurd (omega arith)
    by_order (suc h) le plain (inl f) = stops_up h ts e (plain h (omega arith) (omega arith)) (by_order h (omega arith) (λ k i j. plain k i (omega arith)) (cases_lt n h))

-- The chain of the next level fails.
pub chain_stops : (h n : ℕ) (ts us : List Lexeme) (x : Expression) (e : Stop) → n < h → IsPlain n h → Reads (level expr n) (more n) ts x us → Stops (others n x) (more (suc n)) us e → Stops (level expr h) (more h) ts e
chain_stops h n ts us x e lt plain p q =
    let F : Lang Expression → Type 0 = λ L. Stops L (more (suc n)) ts e in
    climb_stops h (suc n) ts e (omega arith) (λ k i j. plain k (omega arith) j) (subst F (sym (level-chain n (plain n (omega arith) lt))) ((next_leads n ts us x p).stops e q))

-- The chain of the next level is read.
pub chain_reads : (n m : ℕ) (ts us vs : List Lexeme) (x y : Expression) → m ≡ suc n → prefix_at n ≡ None → Reads (level expr n) (more n) ts x us → Reads (others n x) (more (suc n)) us y vs → Reads (level expr m) (more m) ts y vs
chain_reads n m ts us vs x y e h p q =
    let F : ℕ → Type 0 = λ k. Reads (level expr k) (more k) ts y vs in
    let G : Lang Expression → Type 0 = λ L. Reads L (more (suc n)) ts y vs in
    subst F (sym e) (subst G (sym (level-chain n h)) ((next_leads n ts us x p).reads y vs q))

-- ---- signs

pub signed_reads : (s : Symbol) (o : PrismOp) (L : Lang Expression) (m : TokenKind → Bool) (ts us vs signs : List Lexeme) (e : Expression) → Reads (many (symbol s)) (is_symbol s) ts signs us → Reads L m us e vs → Reads (prefixed s o L) m ts (applied o signs e) vs
unfolding prefixed gives
signed_reads s o L m ts us vs signs e p q = then_reads _ p (then_reads _ q (record { word = []; parts = refl; spells = (refl, refl); ends = q.ends }))

pub signed_stops : (s : Symbol) (o : PrismOp) (L : Lang Expression) (P : TokenKind → Type 0) (m : TokenKind → Bool) (ts us signs : List Lexeme) (e : Stop) → same_kind (K.Symbol s) (K.Symbol s) ≡ true →
    ((w : List Lexeme) (a : Expression) → L w a → (t : Lexeme) × (u : List Lexeme) × (w ≡ t ∷ u) × P t.kind) → ((k : TokenKind) → P k → is_symbol s k ≡ false) →
    Reads (many (symbol s)) (is_symbol s) ts signs us → Stops L m us e → Stops (prefixed s o L) m ts e
unfolding prefixed
signed_stops s o L P m ts us signs e same opens apart p q =
    then_stops_later _ (is_symbol s) m e (many_one (token_opens (K.Symbol s)) (sign_repeats s same) (token_one (K.Symbol s))) (opens_follows (is_symbol s) m (λ ts. then_opens _ P opens) apart) p
    (then_stops L _ m m us e (λ y. gives_word (applied o signs y)) (gives_follows (λ y. applied o signs y) m) q)

-- no operator between two operands stands at the levels that have a prefix
pub none_at_0 : (k : TokenKind) → at_level 0 (infix_of k) ≡ None
none_at_0 (K.Symbol S.Star) = refl
none_at_0 (K.Symbol S.Slash) = refl
none_at_0 (K.Symbol S.Plus) = refl
none_at_0 (K.Symbol S.Minus) = refl
none_at_0 (K.Symbol S.Less) = refl
none_at_0 (K.Symbol S.AtMost) = refl
none_at_0 (K.Symbol S.AtLeast) = refl
none_at_0 (K.Symbol S.Greater) = refl
none_at_0 (K.Symbol S.Equal) = refl
none_at_0 (K.Symbol S.Unequal) = refl
none_at_0 (K.Symbol S.And) = refl
none_at_0 (K.Symbol S.Or) = refl
none_at_0 (K.Symbol S.Iff) = refl
none_at_0 (K.Symbol S.Implies) = refl
none_at_0 k = refl

pub none_at_5 : (k : TokenKind) → at_level 5 (infix_of k) ≡ None
none_at_5 (K.Symbol S.Star) = refl
none_at_5 (K.Symbol S.Slash) = refl
none_at_5 (K.Symbol S.Plus) = refl
none_at_5 (K.Symbol S.Minus) = refl
none_at_5 (K.Symbol S.Less) = refl
none_at_5 (K.Symbol S.AtMost) = refl
none_at_5 (K.Symbol S.AtLeast) = refl
none_at_5 (K.Symbol S.Greater) = refl
none_at_5 (K.Symbol S.Equal) = refl
none_at_5 (K.Symbol S.Unequal) = refl
none_at_5 (K.Symbol S.And) = refl
none_at_5 (K.Symbol S.Or) = refl
none_at_5 (K.Symbol S.Iff) = refl
none_at_5 (K.Symbol S.Implies) = refl
none_at_5 k = refl

raised : (n : ℕ) (ts : List Lexeme) → ((k : TokenKind) → at_level n (infix_of k) ≡ None) → Ends (more n) ts → Ends (more (suc n)) ts
raised n [] none e = tt
raised n (t ∷ ts) none e = more_up n t.kind (none t.kind) e

reads_raised : {L : Lang Expression} (n : ℕ) {ts us : List Lexeme} {e : Expression} → ((k : TokenKind) → at_level n (infix_of k) ≡ None) → Reads L (more n) ts e us → Reads L (more (suc n)) ts e us
reads_raised n {us = us} none p = record { word = p.word; parts = p.parts; spells = p.spells; ends = raised n us none p.ends }

-- Neg is read: the minuses, and an operand.
pub neg_reads : (ts us vs signs : List Lexeme) (e : Expression) → Reads (many (symbol S.Minus)) (is_symbol S.Minus) ts signs us → Reads (level expr 0) (more 0) us e vs → Reads (level expr 1) (more 1) ts (applied O.Neg signs e) vs
neg_reads ts us vs signs e p q = reads_raised 0 none_at_0 (signed_reads S.Minus O.Neg (level expr 0) (more 0) ts us vs signs e p q)

-- Not is read: the exclamation marks, and Eq.
pub not_reads : (ts us vs signs : List Lexeme) (e : Expression) → Reads (many (symbol S.Not)) (is_symbol S.Not) ts signs us → Reads (level expr 5) (more 5) us e vs → Reads (level expr 6) (more 6) ts (applied O.Not signs e) vs
not_reads ts us vs signs e p q = reads_raised 5 none_at_5 (signed_reads S.Not O.Not (level expr 5) (more 5) ts us vs signs e p q)

-- what fails fails too where more goes on
pub stops_within : (L : Lang Expression) (m more' : TokenKind → Bool) (ts : List Lexeme) (e : Stop) → ((k : TokenKind) → more' k ≡ false → m k ≡ false) → Stops L m ts e → Stops L more' ts e
stops_within L m more' ts Memory within p = tt
stops_within L m more' ts (At r c) within p = record {
  before = p.before;
  parts = p.parts;
  begins = p.begins;
  dead = λ other w z x e f h g. p.dead other w z x e f h (ends z g);
}
  where
    ends : (z : List Lexeme) → Ends more' z → Ends m z
    ends [] h = tt
    ends (t ∷ z) h = within t.kind h

pub neg_stops : (ts us signs : List Lexeme) (e : Stop) → Reads (many (symbol S.Minus)) (is_symbol S.Minus) ts signs us → Stops (level expr 0) (more 0) us e → Stops (level expr 1) (more 1) ts e
neg_stops ts us signs e p q = stops_within _ (more 0) (more 1) ts e (more_within 0) (signed_stops S.Minus O.Neg (level expr 0) (CanBegin 0) (more 0) ts us signs e refl (level_opens expr 0) (none_no_minus 0 refl) p q)

pub not_stops : (ts us signs : List Lexeme) (e : Stop) → Reads (many (symbol S.Not)) (is_symbol S.Not) ts signs us → Stops (level expr 5) (more 5) us e → Stops (level expr 6) (more 6) ts e
not_stops ts us signs e p q = stops_within _ (more 5) (more 6) ts e (more_within 5) (signed_stops S.Not O.Not (level expr 5) (CanBegin 5) (more 5) ts us signs e refl (level_opens expr 5) (five_no_not 5 refl) p q)
