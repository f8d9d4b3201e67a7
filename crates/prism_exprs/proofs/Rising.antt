-- From an operand to a higher level, where no sign stands before it: through the levels of the operators that come.
use Rattle.std.proofs.Common.{cond, ◌≡◌, ℕ, zero, suc, ◌<◌, ◌≤◌, Bool, true, false, List, [], ◌∷◌, ◌++◌, Option, Some, None, refl, sym, ap, subst, ◌∙◌, length, arith, inl, inr}
use Rattle.std.proofs.lemmas.Bool.{cases_lt, eqb-true, or_from}
use Rattle.std.proofs.lemmas.Bool.Decides.{nat_tests}
use Rattle.std.proofs.lemmas.List.{length-append}
use Rattle.std.specs.Prelude.{◌⊎◌, ◌==◌, nat_lt, if◌then◌else◌}
use Rattle.basics.specs.Booleans.{first_false, second_false}
use Rattle.prism_lex.specs.declared.token.TokenKind.{TokenKind}
use Rattle.prism_lex.specs.declared.token.TokenKind.TheVariants as K
use Rattle.prism_lex.specs.declared.symbols.Symbol.{Symbol}
use Rattle.prism_lex.specs.declared.symbols.Symbol.TheVariants as S
use Rattle.prism_lex.specs.Tokens.{Lexeme}
use Rattle.prism_tree.specs.declared.operator.PrismOp.{PrismOp}
use Rattle.prism_tree.specs.declared.operator.PrismOp.TheVariants as O
use Rattle.prism_tree.specs.Syntax.{Expression}
use Rattle.prism_tree.specs.Lang.{many}
use Rattle.prism_tree.specs.Grammar.{symbol, infix_of, at_level, joined_by, operand, prefixed, over_prefix, prefix_at, prim, level, expr}
use Rattle.prism_exprs.specs.declared.tokens.Stop.{Stop}
use Rattle.prism_exprs.specs.Reading.{Ends, Reads, Stops, starts, is_kind}
use Rattle.prism_exprs.specs.Levels.{is_symbol, binds_below, more, others, level_below, next_level, sign_first}
use Rattle.prism_exprs.proofs.Loops.{folding_reads}
use Rattle.prism_exprs.proofs.Exprs.{more_within, repeats}
use Rattle.prism_exprs.proofs.Climb.{IsPlain, prefix_none, chain_reads, chain_stops, signed_reads, stops_up, neg_stops, not_stops, none_at_0, none_at_5}

-- ---- no signs

-- No sign of an operand stands first.
abbrev pub Unsigned : List Lexeme → Type 0
Unsigned ts = (n : ℕ) (o : Symbol × PrismOp) → prefix_at n ≡ Some o → starts (is_kind (K.Symbol o.0)) ts ≡ false

pub unsigned : (ts : List Lexeme) → starts (is_kind (K.Symbol S.Minus)) ts ≡ false → starts (is_kind (K.Symbol S.Not)) ts ≡ false → Unsigned ts
unsigned ts minus bang n o = go (n == 0) (n == 5)
  where
    F : Symbol × PrismOp → Type 0
    F p = starts (is_kind (K.Symbol p.0)) ts ≡ false

    go : (a b : Bool) → ◌≡◌ {A = Option (Symbol × PrismOp)} (if a then Some (S.Minus, O.Neg) else if b then Some (S.Not, O.Not) else None) (Some o) → starts (is_kind (K.Symbol o.0)) ts ≡ false
    go true b e = let g : ◌≡◌ {A = Symbol × PrismOp} (S.Minus, O.Neg) o = cc in subst F g minus
    go false true e = let g : ◌≡◌ {A = Symbol × PrismOp} (S.Not, O.Not) o = cc in subst F g bang
    go false false e = absurd cc

pub sign_missing : (ts : List Lexeme) → sign_first ts ≡ false → Unsigned ts
sign_missing [] e = unsigned [] refl refl
sign_missing (t ∷ ts) e = unsigned (t ∷ ts) (first_false _ _ e) (second_false (is_symbol S.Minus t.kind) _ e)

no_signs : (s : Symbol) (ts : List Lexeme) → starts (is_kind (K.Symbol s)) ts ≡ false → Reads (many (symbol s)) (is_symbol s) ts [] ts
unfolding many
no_signs s ts e = record { word = []; parts = refl; spells = refl; ends = go ts e }
  where
    go : (ts : List Lexeme) → starts (is_kind (K.Symbol s)) ts ≡ false → Ends (is_symbol s) ts
    go [] e = tt
    go (t ∷ ts) e = e

-- ---- one level, and any number

ends_within : (n : ℕ) (us : List Lexeme) → Ends (more (suc n)) us → Ends (more n) us
ends_within n [] e = tt
ends_within n (t ∷ us) e = more_within n t.kind e

rises_once : (n : ℕ) (ts us : List Lexeme) (x : Expression) → Unsigned ts → Ends (more (suc n)) us → Reads (level expr n) (more n) ts x us → Reads (level expr (suc n)) (more (suc n)) ts x us
rises_once n ts us x un ends p = go (prefix_at n) refl
  where
    go : (o : Option (Symbol × PrismOp)) → prefix_at n ≡ o → Reads (level expr (suc n)) (more (suc n)) ts x us
    go None e = chain_reads n (suc n) ts us us x x refl e p (folding_reads joined_by (operand n (level expr n)) x us ends)
    go (Some o) e =
        let q : Reads (prefixed o.0 o.1 (level expr n)) (more n) ts x us = signed_reads o.0 o.1 (level expr n) (more n) ts ts us [] x (no_signs o.0 ts (un n o e)) p in
        let F : Option (Symbol × PrismOp) → Type 0 = λ r. Reads (over_prefix r n (level expr n)) (more (suc n)) ts x us in
        subst F (sym e) (record { word = q.word; parts = q.parts; spells = q.spells; ends = ends })

-- What a level reads, a higher one reads, where no operator below that stands behind it.
pub rises : (h n : ℕ) (ts us : List Lexeme) (x : Expression) → n ≤ h → Unsigned ts → Ends (more h) us → Reads (level expr n) (more n) ts x us → Reads (level expr h) (more h) ts x us
rises h n ts us x le un ends p = by_order h le ends (cases_lt n h)
  where
    by_order : (h : ℕ) → n ≤ h → Ends (more h) us → (n < h) ⊎ (h ≤ n) → Reads (level expr h) (more h) ts x us
    by_order h le ends (inr f) = let g : n ≡ h = omega arith in let F : ℕ → Type 0 = λ k. Reads (level expr k) (more k) ts x us in subst F g p
    by_order zero le ends (inl f) = absurd (omega arith)
    by_order (suc h) le ends (inl f) = rises_once h ts us x un ends (by_order h (omega arith) (ends_within h us ends) (cases_lt n h))

stops_once : (n : ℕ) (ts : List Lexeme) (s : Stop) → Unsigned ts → Stops (level expr n) (more n) ts s → Stops (level expr (suc n)) (more (suc n)) ts s
stops_once n ts s un p = by_tests (n == 0) (n == 5) refl refl
  where
    F : ℕ → Type 0
    F m = Stops (level expr (suc m)) (more (suc m)) ts s

    G : ℕ → Type 0
    G m = Stops (level expr m) (more m) ts s

    by_tests : (a b : Bool) → (n == 0) ≡ a → (n == 5) ≡ b → Stops (level expr (suc n)) (more (suc n)) ts s
    by_tests true b e f = subst F (sym (eqb-true n 0 e)) (neg_stops ts ts [] s (no_signs S.Minus ts (un 0 _ refl)) (subst G (eqb-true n 0 e) p))
    by_tests false true e f = subst F (sym (eqb-true n 5 f)) (not_stops ts ts [] s (no_signs S.Not ts (un 5 _ refl)) (subst G (eqb-true n 5 f) p))
    by_tests false false e f =
        stops_up n ts s (prefix_none n (λ g. let i : (n == 0) ≡ true = ap (λ (m : ℕ). m == 0) g in absurd cc) (λ g. let i : (n == 5) ≡ true = ap (λ (m : ℕ). m == 5) g in absurd cc)) p

-- What fails at a level fails at a higher one.
pub stop_rises : (h n : ℕ) (ts : List Lexeme) (s : Stop) → n ≤ h → Unsigned ts → Stops (level expr n) (more n) ts s → Stops (level expr h) (more h) ts s
stop_rises h n ts s le un p = by_order h le (cases_lt n h)
  where
    by_order : (h : ℕ) → n ≤ h → (n < h) ⊎ (h ≤ n) → Stops (level expr h) (more h) ts s
    by_order h le (inr f) = let g : n ≡ h = omega arith in let F : ℕ → Type 0 = λ k. Stops (level expr k) (more k) ts s in subst F g p
    by_order zero le (inl f) = absurd (omega arith)
    by_order (suc h) le (inl f) = stops_once h ts s un (by_order h (omega arith) (cases_lt n h))

-- ---- the level of the operator that stands next

-- An operator of level n, which is below h.
record IsNext (h n : ℕ) (k : TokenKind) : Type 0 where
  below : n < h
  op : PrismOp
  is : at_level n (infix_of k) ≡ Some op

same_level : (p : ℕ × PrismOp) → at_level p.0 (Some p) ≡ Some p.1
same_level p = by_test (p.0 == p.0) refl
  where
    by_test : (b : Bool) → (p.0 == p.0) ≡ b → ◌≡◌ {A = Option PrismOp} (if b then Some p.1 else None) (Some p.1)
    by_test true e = refl
    by_test false e = absurd (grind (arith, nat_tests, e))

next_is : (h n : ℕ) (k : TokenKind) → level_below h (infix_of k) ≡ Some n → IsNext h n k
next_is h n k = go (infix_of k) refl
  where
    by_test : (p : ℕ × PrismOp) → infix_of k ≡ Some p → (b : Bool) → nat_lt p.0 h ≡ b → ◌≡◌ {A = Option ℕ} (if b then Some p.0 else None) (Some n) → IsNext h n k
    by_test p g true f e =
        let i : p.0 ≡ n = cc in
        let F : ℕ → Type 0 = λ m. at_level m (infix_of k) ≡ Some p.1 in
        record { below = grind (arith, nat_tests, f, i); op = p.1; is = subst F i (ap (λ (o : Option (ℕ × PrismOp)). at_level p.0 o) g ∙ same_level p) }
    by_test p g false f e = absurd cc

    go : (o : Option (ℕ × PrismOp)) → infix_of k ≡ o → level_below h o ≡ Some n → IsNext h n k
    go None g e = absurd cc
    go (Some p) g e = by_test p g (nat_lt p.0 h) refl e

none_below : (h : ℕ) (o : Option (ℕ × PrismOp)) → level_below h o ≡ None → binds_below h o ≡ false
none_below h None e = refl
none_below h (Some p) e = by_test (nat_lt p.0 h) refl e
  where
    by_test : (b : Bool) → nat_lt p.0 h ≡ b → ◌≡◌ {A = Option ℕ} (if b then Some p.0 else None) None → nat_lt p.0 h ≡ false
    by_test true f e = absurd cc
    by_test false f e = f

-- Where no operator below h stands next, nothing goes on with level h.
ends_up : (h n : ℕ) (us : List Lexeme) → next_level h us ≡ None → Ends (more n) us → Ends (more h) us
ends_up h n [] e f = tt
ends_up h n (t ∷ us) e f = or_from _ _ (first_false _ _ f) (none_below h (infix_of t.kind) e)

-- the level of the operator is none below which nothing goes on
not_lower : (n m : ℕ) (k : TokenKind) (op : PrismOp) → at_level n (infix_of k) ≡ Some op → more m k ≡ false → m ≤ n
not_lower n m k op e f = go (infix_of k) e (second_false (is_symbol S.LeftParenthesis k) _ f)
  where
    by_test : (p : ℕ × PrismOp) (b : Bool) → (p.0 == n) ≡ b → cond b (Some p.1) None ≡ Some op → nat_lt p.0 m ≡ false → m ≤ n
    by_test p true g e f = let i : p.0 ≡ n = eqb-true p.0 n g in grind (arith, nat_tests, f, i)
    by_test p false g e f = absurd cc

    go : (o : Option (ℕ × PrismOp)) → at_level n o ≡ Some op → binds_below m o ≡ false → m ≤ n
    go None e f = absurd cc
    go (Some p) e f = by_test p (p.0 == n) refl e f

-- no sign has the level of an operator
no_prefix : (n : ℕ) (k : TokenKind) (op : PrismOp) → at_level n (infix_of k) ≡ Some op → prefix_at n ≡ None
no_prefix n k op e =
    let F : ℕ → Type 0 = λ m. at_level m (infix_of k) ≡ Some op in
    prefix_none n (λ g. let i = subst F g e in let j = none_at_0 k in absurd cc) (λ g. let i = subst F g e in let j = none_at_5 k in absurd cc)

-- ---- the loop

-- Some level up to h has read this.
pub record Risen (h : ℕ) (ts : List Lexeme) (x : Expression) (us : List Lexeme) : Type 0 where
  pub at : ℕ
  pub within : at ≤ h
  pub reads : Reads (level expr at) (more at) ts x us

pub risen_first : (h : ℕ) (ts us : List Lexeme) (x : Expression) → Reads (prim expr) (more 0) ts x us → Risen h ts x us
risen_first h ts us x p = record { at = 0; within = omega arith; reads = p }

-- The operator is of this level, and nothing below it goes on.
pub record Comes (h n : ℕ) (ts : List Lexeme) (x : Expression) (us : List Lexeme) : Type 0 where
  pub below : n < h
  pub op : PrismOp
  pub first : Lexeme
  pub others : List Lexeme
  pub parts : us ≡ first ∷ others
  pub is : at_level n (infix_of first.kind) ≡ Some op
  pub ends : Ends (more n) us
  pub reads : Reads (level expr n) (more n) ts x us

pub comes : (h n : ℕ) (ts us : List Lexeme) (x : Expression) → Unsigned ts → Risen h ts x us → next_level h us ≡ Some n → Comes h n ts x us
comes h n ts [] x un p e = absurd cc
comes h n ts (t ∷ us) x un p e =
    let i = next_is h n t.kind e in
    let ends : Ends (more n) (t ∷ us) = (repeats n).apart t.kind (i.op, i.is) in
    record {
      below = i.below;
      op = i.op;
      first = t;
      others = us;
      parts = refl;
      is = i.is;
      ends = ends;
      reads = rises n p.at ts (t ∷ us) x (not_lower n p.at t.kind i.op i.is p.reads.ends) un ends p.reads;
    }

pub risen_next : (h n : ℕ) (ts us vs : List Lexeme) (x y : Expression) → Comes h n ts x us → Reads (others n x) (more (suc n)) us y vs → Risen h ts y vs
risen_next h n ts us vs x y c p = record {
  at = suc n;
  within = (let i = c.below in omega arith);
  reads = chain_reads n (suc n) ts us vs x y refl (no_prefix n c.first.kind c.op c.is) c.reads p;
}

pub risen_stops : (h n : ℕ) (ts us : List Lexeme) (x : Expression) (s : Stop) → Unsigned ts → Comes h n ts x us → Stops (others n x) (more (suc n)) us s → Stops (level expr h) (more h) ts s
risen_stops h n ts us x s un c p =
    let i = c.below in
    let plain : IsPlain n (suc n) = λ k a b. let j : n ≡ k = omega arith in let F : ℕ → Type 0 = λ m. prefix_at m ≡ None in subst F j (no_prefix n c.first.kind c.op c.is) in
    stop_rises h (suc n) ts s (omega arith) un (chain_stops (suc n) n ts us x s (omega arith) plain c.reads p)

pub risen_done : (h : ℕ) (ts us : List Lexeme) (x : Expression) → Unsigned ts → Risen h ts x us → next_level h us ≡ None → Reads (level expr h) (more h) ts x us
risen_done h ts us x un p e = rises h p.at ts us x p.within un (ends_up h p.at us e p.reads.ends) p.reads

-- The chain of an operator that stands next is some tokens.
pub chain_shorter : (h n : ℕ) (ts us vs : List Lexeme) (x y : Expression) → Comes h n ts x us → Reads (others n x) (more (suc n)) us y vs → suc (length vs) ≤ length us
chain_shorter h n ts us vs x y c p = go p.word p.parts
  where
    go : (w : List Lexeme) → us ≡ w ++ vs → suc (length vs) ≤ length us
    go [] e =
        let F : List Lexeme → Type 0 = λ u. Ends (more (suc n)) u in
        let ended : Ends (more (suc n)) (c.first ∷ c.others) = subst F (sym e ∙ c.parts) p.ends in
        let goes : more (suc n) c.first.kind ≡ true = (repeats n).again c.first.kind (c.op, c.is) in
        absurd cc
    go (t ∷ w) e = omega (arith, ap length e, length-append w vs)
