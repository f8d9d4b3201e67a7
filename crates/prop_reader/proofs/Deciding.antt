-- A name of a function at the front of a list: whether it stands alone, and what that tells of bounds.
use Rattle.std.proofs.Common.{◌≡◌, ℕ, ◌<◌, Bool, true, false, List, [], ◌∷◌, ◌++◌, Option, Some, None, refl, sym, ap, subst, ◌∙◌, arith, inl, inr, append-nil, append_assoc, length, map}
use Rattle.std.specs.Prelude.{◌⊎◌, ◌&&◌, not, is_some, if◌then◌else◌, Result, Ok, Err}
use Rattle.std.proofs.lemmas.List.{append_cancel_right}
use Rattle.op_trees.specs.Tree.{Truth, Name, One, Two}
use Rattle.prism_lex.specs.declared.token.TokenKind.{TokenKind}
use Rattle.prism_lex.specs.declared.token.TokenKind.TheVariants as K
use Rattle.prism_lex.specs.declared.symbols.Symbol.TheVariants as S
use Rattle.prism_lex.specs.declared.words.Reserved.TheVariants as W
use Rattle.prism_lex.specs.Tokens.{Lexeme}
use Rattle.prism_tree.specs.declared.operator.PrismOp.{PrismOp}
use Rattle.prism_tree.specs.declared.operator.PrismOp.TheVariants as O
use Rattle.prism_tree.specs.Syntax.{Expression}
use Rattle.prism_tree.specs.Lang.{Lang, token, token_with, gives, ◌>>=◌, ◌or◌, Begins}
use Rattle.prism_tree.specs.Grammar.{prim, expr, function_of, name_or_call, arguments, one_argument, two_arguments, argument}
use Rattle.prism_exprs.specs.declared.tokens.Found.{Found}
use Rattle.prism_exprs.specs.declared.tokens.Stop.{Stop}
use Rattle.prism_exprs.specs.declared.tokens.Stop.TheVariants.{Memory, At}
use Rattle.prism_exprs.specs.Kept.{seen}
use Rattle.prism_exprs.specs.Reading.{Ends, none, next, Dead, Reads, starts}
use Rattle.prism_exprs.specs.Levels.{goes_on}
use Rattle.prism_exprs.specs.Scope.{Scope, expressions, StopsIn, ParsesIn}
use Rattle.prism_exprs.specs.declared.tokens.Tokens.{Tokens}
use Rattle.prism_exprs.proofs.Laws.{HasWord, then_word, gives_word, none_ends, Ends-next, next-append, token_with_one, none_follows}
use Rattle.prism_exprs.proofs.Loops.{same_is}
use Rattle.prism_items.proofs.Leading.{Leads, then_leads, then_begins, then_dead}
use Rattle.prism_exprs.proofs.Outer.{expressions_word, expressions_opens, early_short}
use Rattle.prism_items.proofs.Expressions.{short_word, true_word}
use Rattle.prop_grammar.specs.Faults.{operand, outer_operand}
use Rattle.prop_grammar.specs.Grammar
use Rattle.prop_grammar.specs.Grammar.{IsOpen, function_name, function_name_of, is_name, named_if}
use Rattle.prop_reader.specs.Parts.{in_scope, operands, operands_of, opens, function_alone}
use Rattle.prop_reader.proofs.Shut.{IsFunction, function_is, function_call, operands_one, operand_of}
use Rattle.prop_reader.proofs.Bounding.{not_open, name_and_call}

-- ---- what the test tells

pub test_open : (us : List Lexeme) → starts opens us ≡ false → Ends opens us
test_open [] e = tt
test_open (t ∷ us) e = e

named_test : (s : Lexeme) → IsFunction s → is_some (function_name_of s) ≡ true
named_test s f =
    let G : TokenKind → Type 0 = λ k. is_some (if is_name k then named_if s (function_of s.text) else None) ≡ true in
    subst G (sym f.kind) (ap (λ (o : Option PrismOp). is_some (named_if s o)) f.is)

pub opened_test : (ss : List Lexeme) → starts opens ss ≡ true → IsOpen ss
opened_test [] g = absurd cc
opened_test (r ∷ rs) g = same_is r.kind (K.Symbol S.LeftParenthesis) g

both_false : (a b : Bool) → a ≡ true → (a && not b) ≡ false → b ≡ true
both_false true true g h = refl
both_false true false g h = absurd cc
both_false false b g h = absurd cc

-- where the test fails, a parenthesis stands behind a name of a function
pub not_alone : (ts us : List Lexeme) (t : Lexeme) → function_alone ts ≡ false → ts ≡ t ∷ us → IsFunction t → IsOpen us
not_alone ts us t e p f =
    let F : List Lexeme → Type 0 = λ u. function_alone u ≡ false in
    opened_test us (both_false (is_some (function_name_of t)) (starts opens us) (named_test t f) (subst F p e))

-- ---- calls

abbrev sign : TokenKind → Lexeme
sign k = record { kind = k; text = []; at = 0 }

abbrev pub opening_token : Lexeme
opening_token = record { kind = K.Symbol S.LeftParenthesis; text = []; at = 0 }

abbrev closing : Lexeme
closing = sign (K.Symbol S.RightParenthesis)

abbrev comma : Lexeme
comma = sign (K.Symbol S.Comma)

abbrev yes_token : Lexeme
yes_token = sign (K.Word W.True)

abbrev after_open : PrismOp → List Lexeme
after_open O.Mod = yes_token ∷ comma ∷ yes_token ∷ closing ∷ []
after_open o = yes_token ∷ closing ∷ []

abbrev called_value : PrismOp → ℕ → Expression
called_value O.Mod at = Two at O.Mod (Truth 0 true) (Truth 0 true)
called_value o at = One at o (Truth 0 true)

one_called : (o : PrismOp) (at : ℕ) (p : Lexeme) → p.kind ≡ K.Symbol S.LeftParenthesis → one_argument expr o at (p ∷ yes_token ∷ closing ∷ []) (One at o (Truth 0 true))
unfolding one_argument token ◌>>=◌ gives
one_called o at p h = (p, p ∷ [], yes_token ∷ closing ∷ [], refl, (refl, h), (Truth 0 true, yes_token ∷ [], closing ∷ [], refl, true_word yes_token refl, (closing, closing ∷ [], [], refl, (refl, refl), (refl, refl))))

two_called : (at : ℕ) (p : Lexeme) → p.kind ≡ K.Symbol S.LeftParenthesis → two_arguments expr O.Mod at (p ∷ yes_token ∷ comma ∷ yes_token ∷ closing ∷ []) (Two at O.Mod (Truth 0 true) (Truth 0 true))
unfolding two_arguments argument token ◌>>=◌ gives
two_called at p h = (
  p,
  p ∷ [],
  yes_token ∷ comma ∷ yes_token ∷ closing ∷ [],
  refl,
  (refl, h),
  (
    Truth 0 true,
    yes_token ∷ [],
    comma ∷ yes_token ∷ closing ∷ [],
    refl,
    true_word yes_token refl,
    (Truth 0 true, comma ∷ yes_token ∷ [], closing ∷ [], refl, (comma, comma ∷ [], yes_token ∷ [], refl, (refl, refl), true_word yes_token refl), (closing, closing ∷ [], [], refl, (refl, refl), (refl, refl))),
  ),
)

arguments_called : (o : PrismOp) (at : ℕ) (p : Lexeme) → p.kind ≡ K.Symbol S.LeftParenthesis → arguments expr (Some o) at (p ∷ after_open o) (called_value o at)
arguments_called O.Mod at p h = two_called at p h
arguments_called o at p h = one_called o at p h

few : (o : PrismOp) → length (after_open o) < 1000
few O.Mod = omega arith
few o = omega arith

-- A name of a function and a parenthesis begin an operand.
pub call_begins : (s : Scope) (t p : Lexeme) → IsFunction t → p.kind ≡ K.Symbol S.LeftParenthesis → (v : List Lexeme) × (x : Expression) × operands s (t ∷ p ∷ v) x
unfolding operand outer_operand prim name_or_call token ◌>>=◌ ◌or◌
call_begins s t p f h =
    let G : Option PrismOp → Type 0 = λ g. arguments expr g t.at (p ∷ after_open f.op) (called_value f.op t.at) in
    let args = subst G (sym f.is) (arguments_called f.op t.at p h) in
    let whole : operand (t ∷ p ∷ after_open f.op) (called_value f.op t.at) =
    (inr (inr (inr (inl (t, t ∷ [], p ∷ after_open f.op, refl, (refl, f.kind), inr args)))), λ u e k. absurd (omega (arith, ap length e))) in
    (after_open f.op, called_value f.op t.at, by_scope s.counted whole)
  where
    by_scope : (c : Option (List Lexeme)) → operand (t ∷ p ∷ after_open f.op) (called_value f.op t.at) → operands_of c (t ∷ p ∷ after_open f.op) (called_value f.op t.at)
    by_scope None w = w
    by_scope (Some us) w = (w, early_short us _ (let n = few f.op in omega (arith, n)))

-- ---- where an operand was refused

open_next : (a b : List Lexeme) → next b ≡ next a → IsOpen a → IsOpen b
open_next [] b e h = absurd h
open_next (s ∷ a) [] e h = absurd cc
open_next (s ∷ a) (t ∷ b) e h =
    let i : t ≡ s = cc in
    ap (λ (u : Lexeme). u.kind) i ∙ h

first_open : (us : List Lexeme) → IsOpen us → (p : Lexeme) × (v : List Lexeme) × (us ≡ p ∷ v) × (p.kind ≡ K.Symbol S.LeftParenthesis)
first_open [] h = absurd h
first_open (p ∷ v) h = (p, v, refl, h)

pub name_dead : (s : Scope) (ts r before : List Lexeme) → ts ≡ before ++ r → function_alone ts ≡ false → Begins (operands s) before → Dead (operands s) none before r →
    (other y : List Lexeme) (t : Lexeme) → IsFunction t → next other ≡ next r → before ++ other ≡ t ∷ y → IsOpen y
name_dead s ts [] [] e a b d [] y t f n g = absurd cc
name_dead s ts [] [] e a b d (u ∷ other) y t f n g = absurd cc
name_dead s ts (q ∷ r) [] e a b d [] y t f n g = absurd cc
name_dead s ts (q ∷ r) [] e a b d (u ∷ other) y t f n g =
    let i : u ≡ t = cc in
    let j : u ≡ q = cc in
    let k : q ≡ t = sym j ∙ i in
    let o = first_open r (not_alone ts r t a (e ∙ ap (λ (v : Lexeme). v ∷ r) k) f) in
    let w = call_begins s t o.0 f o.3 in
    absurd (d (t ∷ o.0 ∷ w.0) (t ∷ o.0 ∷ w.0) [] w.1 (ap (λ (v : Lexeme). Some v) (sym k)) (sym {a = (t ∷ o.0 ∷ w.0) ++ []} {b = t ∷ o.0 ∷ w.0} (append-nil (t ∷ o.0 ∷ w.0))) w.2 tt)
name_dead s ts r (u ∷ []) e a b d other y t f n g =
    let i : u ≡ t = cc in
    let j : other ≡ y = cc in
    let F : List Lexeme → Type 0 = λ v. IsOpen v in
    subst F j (open_next r other n (not_alone ts r t a (e ∙ ap (λ (v : Lexeme). v ∷ r) i) f))
name_dead s ts r (u ∷ q ∷ before) e a b d other y t f n g =
    let i : u ≡ t = cc in
    let j : q ∷ (before ++ other) ≡ y = cc in
    let F : List Lexeme → Type 0 = λ v. IsOpen v in
    let G : Lexeme → Type 0 = λ v. IsFunction v in
    let o : IsOpen (q ∷ (before ++ b.0)) = function_call ((u ∷ q ∷ before) ++ b.0) (q ∷ (before ++ b.0)) u b.1 (operand_of s _ b.1 b.2) refl (subst G (sym i) f) in
    subst F j o

function_dead : (s : Scope) (ts r before : List Lexeme) → ts ≡ before ++ r → function_alone ts ≡ false → Begins (operands s) before → Dead (operands s) none before r → Dead function_name opens before r
unfolding token_with
function_dead s ts r before e a b d other w z x n f h g =
    not_open z g (name_dead s ts r before e a b d other z h.0 (function_is h.0 x h.2) n (f ∙ ap (λ (u : List Lexeme). u ++ z) h.1))

pub bound_stops : (s : Scope) (ts : List Lexeme) (e : Stop) → function_alone ts ≡ false → StopsIn s (operands s) none ts e → StopsIn s (in_scope Grammar.bound s) opens ts e
unfolding Grammar.bound ◌or◌
bound_stops s ts Memory a h = tt
bound_stops s ts (At r c) a h = record {
  before = h.before;
  parts = h.parts;
  begins = let b = h.begins in (b.0, b.1, inl b.2);
  dead = λ i. by_case (h.dead i) (function_dead s ts (seen r) h.before h.parts a h.begins (h.dead i));
  goes = λ i. let g = h.goes i in let b = g.3 in (g.0, g.1, g.2, (b.0, b.1, inl b.2));
}
  where
    by_case : Dead (operands s) none h.before (seen r) → Dead function_name opens h.before (seen r) → Dead (in_scope Grammar.bound s) opens h.before (seen r)
    by_case p q other w z x n f (inl k) g = p other w z x n f k (none_ends z)
    by_case p q other w z x n f (inr k) g = q other w z x n f k g

pub bound_reads : (s : Scope) (ts us : List Lexeme) (x : Expression) → Reads (operands s) none ts x us → Ends opens us → Reads (in_scope Grammar.bound s) opens ts x us
unfolding Grammar.bound ◌or◌
bound_reads s ts us x p e = record { word = p.word; parts = p.parts; spells = inl p.spells; ends = e }

pub bound_named : (s : Scope) (ts us : List Lexeme) (x : Expression) → Reads function_name opens ts x us → Reads (in_scope Grammar.bound s) opens ts x us
unfolding Grammar.bound ◌or◌
bound_named s ts us x p = record { word = p.word; parts = p.parts; spells = inr p.spells; ends = p.ends }

-- ---- what stands behind a bound of steps

unopened_closed : (s : Scope) (c z : List Lexeme) (e : Expression) → Grammar.unopened (expressions s) c e → IsOpen (c ++ z) → ⊥
unfolding Grammar.unopened
unopened_closed s c z e p h =
    let n = expressions_opens s c e p.0 in
    let F : List Lexeme → Type 0 = λ u. IsOpen (u ++ z) in
    let G : List Lexeme → Type 0 = λ u. IsOpen u in
    p.1 (subst G (sym n.2) (subst F n.2 h))

abbrev pub behind_plain : Scope → Expression → Lang (Expression × Expression)
behind_plain s k = expressions s >>= λ e. gives (k, e)

abbrev pub behind_named : Scope → Expression → Lang (Expression × Expression)
behind_named s k = Grammar.unopened (expressions s) >>= λ e. gives (k, e)

named_dead : (s : Scope) (before r : List Lexeme) → ((other y : List Lexeme) (t : Lexeme) → IsFunction t → next other ≡ next r → before ++ other ≡ t ∷ y → IsOpen y) → Dead (in_scope Grammar.named_within s) goes_on before r
unfolding Grammar.named_within ◌>>=◌ token_with
named_dead s before r d other w z x n f h g =
    let k = h.4 in
    let m = h.5 in
    let y : List Lexeme = h.2 ++ z in
    let parts : before ++ other ≡ k.0 ∷ y = f ∙ ap (λ (u : List Lexeme). u ++ z) (h.3 ∙ ap (λ (u : List Lexeme). u ++ h.2) k.1) in
    let o = d other y k.0 (function_is k.0 h.0 k.2) n parts in
    let F : List Lexeme → Type 0 = λ u. IsOpen u in
    unopened_closed s m.1 (m.2 ++ z) m.0 m.4 (subst F (ap (λ (u : List Lexeme). u ++ z) m.3 ∙ append_assoc m.1 m.2 z) o)

pub named_leads : (s : Scope) (ts us : List Lexeme) (k : Expression) → Reads function_name opens ts k us → Leads goes_on (in_scope Grammar.within s) ts (behind_named s k) us
unfolding Grammar.within Grammar.named_within Grammar.plain_within ◌or◌ ◌>>=◌
named_leads s ts us k p =
    let q : Reads function_name none ts k us = record { word = p.word; parts = p.parts; spells = p.spells; ends = none_ends us } in
    let n : Leads goes_on (in_scope Grammar.named_within s) ts (behind_named s k) us = then_leads (λ k. behind_named s k) none goes_on (token_with_one function_name_of none) (none_follows _ goes_on) q in
    record {
      front = n.front;
      parts = n.parts;
      reads = λ x r h. let m = n.reads x r h in record { word = m.word; parts = m.parts; spells = inr m.spells; ends = m.ends };
      begins = λ v b. let m = n.begins v b in (m.0, m.1, inr m.2);
      dead = λ v r e d other w z x i f h g. by_case v r e other w z x i (ap (λ (u : List Lexeme). (u ++ v) ++ other) (sym (append_cancel_right n.front p.word us (sym n.parts ∙ p.parts))) ∙ f) g (n.dead v r e d other w z x i f) h;
    }
  where
    plain_here : (v r other w z : List Lexeme) (x : Expression × Expression) → next (v ++ r) ≡ next us → next other ≡ next r → (p.word ++ v) ++ other ≡ w ++ z → in_scope Grammar.plain_within s w x → ⊥
    plain_here v r other w z x e i f h =
        let o = name_and_call s h.1 (h.2 ++ z) p.word (v ++ other) h.0 k h.4 p.spells (sym (append_assoc h.1 h.2 z) ∙ ap (λ (u : List Lexeme). u ++ z) (sym h.3) ∙ sym f ∙ append_assoc p.word v other) in
        not_open (v ++ other) (Ends-next opens us (v ++ other) (next-append v r other i ∙ e) p.ends) o

    by_case : (v r : List Lexeme) → next (v ++ r) ≡ next us → (other w z : List Lexeme) (x : Expression × Expression) → next other ≡ next r → (p.word ++ v) ++ other ≡ w ++ z → Ends goes_on z → (in_scope Grammar.named_within s w x → Ends goes_on z → ⊥) →
        in_scope Grammar.plain_within s w x ⊎ in_scope Grammar.named_within s w x → ⊥
    by_case v r e other w z x i f g d (inl h) = plain_here v r other w z x e i f h
    by_case v r e other w z x i f g d (inr h) = d h g

named_after : (s : Scope) (a : List Lexeme) (k : Expression) → operands s a k → (rest w z : List Lexeme) (x : Expression × Expression) → a ++ rest ≡ w ++ z → in_scope Grammar.named_within s w x → ⊥
unfolding Grammar.named_within ◌>>=◌
named_after s a k p rest w z x f h =
    let m = h.5 in
    let o = name_and_call s a rest h.1 (h.2 ++ z) k h.0 p h.4 (f ∙ ap (λ (u : List Lexeme). u ++ z) h.3 ∙ append_assoc h.1 h.2 z) in
    let F : List Lexeme → Type 0 = λ u. IsOpen u in
    unopened_closed s m.1 (m.2 ++ z) m.0 m.4 (subst F (ap (λ (u : List Lexeme). u ++ z) m.3 ∙ append_assoc m.1 m.2 z) o)

pub plain_leads : (s : Scope) (ts us : List Lexeme) (k : Expression) → Reads (operands s) none ts k us → Leads goes_on (in_scope Grammar.within s) ts (behind_plain s k) us
unfolding Grammar.within Grammar.plain_within ◌or◌
plain_leads s ts us k p =
    let n : Leads goes_on (in_scope Grammar.plain_within s) ts (behind_plain s k) us = then_leads (λ k. behind_plain s k) none goes_on (operands_one s) (none_follows _ goes_on) p in
    record {
      front = n.front;
      parts = n.parts;
      reads = λ x r h. let m = n.reads x r h in record { word = m.word; parts = m.parts; spells = inl m.spells; ends = m.ends };
      begins = λ v b. let m = n.begins v b in (m.0, m.1, inl m.2);
      dead = λ v r e d other w z x i f h g. by_case v r other w z x i (ap (λ (u : List Lexeme). (u ++ v) ++ other) (sym (append_cancel_right n.front p.word us (sym n.parts ∙ p.parts))) ∙ f) g (n.dead v r e d other w z x i f) h;
    }
  where
    named_here : (v other w z : List Lexeme) (x : Expression × Expression) → (p.word ++ v) ++ other ≡ w ++ z → in_scope Grammar.named_within s w x → ⊥
    named_here v other w z x f h = named_after s p.word k p.spells (v ++ other) w z x (sym (append_assoc p.word v other) ∙ f) h

    by_case : (v r other w z : List Lexeme) (x : Expression × Expression) → next other ≡ next r → (p.word ++ v) ++ other ≡ w ++ z → Ends goes_on z → (in_scope Grammar.plain_within s w x → Ends goes_on z → ⊥) →
        in_scope Grammar.plain_within s w x ⊎ in_scope Grammar.named_within s w x → ⊥
    by_case v r other w z x i f g d (inl h) = d h g
    by_case v r other w z x i f g d (inr h) = named_here v other w z x f h

pub plain_stops : (s : Scope) (ts : List Lexeme) (e : Stop) → function_alone ts ≡ false → StopsIn s (operands s) none ts e → StopsIn s (in_scope Grammar.within s) goes_on ts e
unfolding Grammar.within Grammar.plain_within ◌or◌
plain_stops s ts Memory a h = tt
plain_stops s ts (At r c) a h = record {
  before = h.before;
  parts = h.parts;
  begins = let b = then_begins (operands s) (λ k. behind_plain s k) h.before (λ k. word k) h.begins in (b.0, b.1, inl b.2);
  dead = λ i. by_case (then_dead (operands s) (λ k. behind_plain s k) h.before (seen r) (none_follows _ goes_on) (h.dead i)) (named_dead s h.before (seen r) (name_dead s ts (seen r) h.before h.parts a h.begins (h.dead i)));
  goes = λ i. let g = h.goes i in let b = then_begins (operands s) (λ k. behind_plain s k) (h.before ++ g.0 ∷ []) (λ k. word k) g.3 in (g.0, g.1, g.2, (b.0, b.1, inl b.2));
}
  where
    word : (k : Expression) → HasWord (behind_plain s k)
    word k = then_word (expressions_word s) (λ e. gives_word (k, e))

    by_case : Dead (in_scope Grammar.plain_within s) goes_on h.before (seen r) → Dead (in_scope Grammar.named_within s) goes_on h.before (seen r) → Dead (in_scope Grammar.within s) goes_on h.before (seen r)
    by_case p q other w z x n f (inl k) g = p other w z x n f k g
    by_case p q other w z x n f (inr k) g = q other w z x n f k g

-- ---- an expression that does not begin with a parenthesis

not_first : (ts w z : List Lexeme) → starts opens ts ≡ false → ts ≡ w ++ z → IsOpen w → ⊥
not_first ts [] z e p h = h
not_first ts (t ∷ w) z e p h =
    let F : List Lexeme → Type 0 = λ u. starts opens u ≡ false in
    let G : TokenKind → Type 0 = λ k. opens k ≡ false in
    let n : opens (K.Symbol S.LeftParenthesis) ≡ false = subst G h (subst F p e) in
    absurd cc

pub unopened_reads : (s : Scope) (ts us : List Lexeme) (x : Expression) → starts opens ts ≡ false → Reads (expressions s) goes_on ts x us → Reads (Grammar.unopened (expressions s)) goes_on ts x us
unfolding Grammar.unopened
unopened_reads s ts us x e p = record { word = p.word; parts = p.parts; spells = (p.spells, not_first ts p.word us e p.parts); ends = p.ends }

short_true : (s : Scope) → HasWord (Grammar.unopened (expressions s))
unfolding Grammar.unopened
short_true s = (yes_token ∷ [], Truth 0 true, (short_word s.counted (yes_token ∷ []) (Truth 0 true) (omega arith) (true_word yes_token refl), λ h. (let n : K.Word W.True ≡ K.Symbol S.LeftParenthesis = h in absurd cc)))

unopened_begins : (s : Scope) (ts u r : List Lexeme) → starts opens ts ≡ false → ts ≡ u ++ r → Begins (expressions s) u → Begins (Grammar.unopened (expressions s)) u
unfolding Grammar.unopened
unopened_begins s ts [] r e p b = let w = short_true s in (w.0, w.1, w.2)
unopened_begins s ts (t ∷ u) r e p b = (b.0, b.1, (b.2, λ h. not_first ts (t ∷ u) r e p h))

pub unopened_stops : (s : Scope) (ts : List Lexeme) (e : Stop) → starts opens ts ≡ false → StopsIn s (expressions s) goes_on ts e → StopsIn s (Grammar.unopened (expressions s)) goes_on ts e
unfolding Grammar.unopened
unopened_stops s ts Memory a h = tt
unopened_stops s ts (At r c) a h = record {
  before = h.before;
  parts = h.parts;
  begins = unopened_begins s ts h.before (seen r) a h.parts h.begins;
  dead = λ i other w z x n f k g. h.dead i other w z x n f k.0 g;
  goes = λ i.
      let g = h.goes i in
      (g.0, g.1, g.2, unopened_begins s ts (h.before ++ g.0 ∷ []) g.1 a (h.parts ∙ ap (λ (u : List Lexeme). h.before ++ u) g.2 ∙ sym (append_assoc h.before (g.0 ∷ []) g.1)) g.3);
}

-- ---- what the readers return

pub unopened_parses : {X : Type 0} (view : X → Expression) (ts : List Lexeme) (r : Result (X × Tokens) Stop) → starts opens ts ≡ false → ParsesIn view expressions goes_on ts r → ParsesIn view (λ s. Grammar.unopened (expressions s)) goes_on ts r
unopened_parses view ts (Ok y) a p = λ s. unopened_reads s ts (seen y.1) (view y.0) a (p s)
unopened_parses view ts (Err e) a p = λ s. unopened_stops s ts e a (p s)

pub name_read : (f : Found → Lexeme) (found xs : List Found) (x : Found) (r : List Lexeme) (at : ℕ) (w v : List ℕ) → found ≡ x ∷ xs → function_name_of (f x) ≡ Some (Name at w) → v ≡ w → r ≡ map f xs → starts opens r ≡ false →
    Reads function_name opens (map f found) (Name at v) r
unfolding token_with
name_read f found xs x r at w v e h g i n = record {
  word = f x ∷ [];
  parts = ap (λ (u : List Found). map f u) e ∙ ap (λ (u : List Lexeme). f x ∷ u) (sym i);
  spells = (f x, refl, h ∙ ap (λ (u : List ℕ). Some (Name at u)) (sym g));
  ends = test_open r n;
}
