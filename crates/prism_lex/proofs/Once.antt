-- A text has one reading.
use Rattle.std.proofs.Common.{◌≡◌, ℕ, zero, suc, ◌+◌, ◌≤◌, ◌<◌, true, List, [], ◌∷◌, ◌++◌, length, drop, Some, None, refl, sym, ap, subst, ◌∙◌, arith, append-nil, length-append, length-drop}
use Rattle.prism_lex.specs.declared.automaton.State.{State}
use Rattle.prism_lex.specs.declared.automaton.State.TheVariants.{Start, Letters, Whole, Point, Part, Mark, Sign, Power, Quote, Inside, Closed, Dead}
use Rattle.prism_lex.specs.declared.token.TokenKind.{TokenKind}
use Rattle.prism_lex.specs.declared.token.TokenKind.TheVariants.{Word, Ident, Quoted, Number, Symbol, End}
use Rattle.prism_lex.specs.Automaton.{after}
use Rattle.prism_lex.specs.Numbers.{is_at_digit}
use Rattle.prism_lex.specs.Gaps.{IsGap}
use Rattle.prism_lex.specs.Tokens.{IsKind, IsToken, IsLongest, Lexeme, end_of, IsNext, IsEnd, IsStuck, Ending, finished, stuck, Reads}
use Rattle.prism_lex.proofs.Shapes.{name_state, quoted_state}
use Rattle.prism_lex.proofs.Worth.{worth_one}
use Rattle.prism_lex.proofs.LongestSymbol.{symbol_dead}
use Rattle.prism_lex.proofs.FrontLemmas.{word_name, some_is, no_empty_token}

-- ---- a text is a token of one kind at most

abbrev state_class : State → ℕ
state_class Letters = 1
state_class Closed = 2
state_class Whole = 3
state_class Part = 3
state_class Power = 3
state_class Dead = 4
state_class _ = 0

abbrev kind_class : TokenKind → ℕ
kind_class (Word r) = 1
kind_class Ident = 1
kind_class Quoted = 2
kind_class (Number d) = 3
kind_class (Symbol s) = 4
kind_class End = 5

number_class : (s : State) → is_at_digit s ≡ true → state_class s ≡ 3
number_class Whole h = refl
number_class Part h = refl
number_class Power h = refl
number_class s h = absurd cc

class_is : (w : List ℕ) (k : TokenKind) → IsKind w k → state_class (after Start w) ≡ kind_class k
class_is w (Word r) h = ap state_class (name_state w (word_name w (some_is _ r h)))
class_is w Ident h = ap state_class (name_state w h.0)
class_is w Quoted h = ap state_class (quoted_state w h.0 h.1 h.2)
class_is w (Number d) h = number_class (after Start w) h.number
class_is w (Symbol s) h = ap state_class (symbol_dead w (some_is _ s h))
class_is w End h = absurd h

same_class : (w : List ℕ) (j k : TokenKind) → IsKind w j → IsKind w k → kind_class j ≡ kind_class k → j ≡ k
same_class w (Word r) (Word s) p q e = let a : Some r ≡ Some s = sym p ∙ q in cc
same_class w (Word r) Ident p q e = let a : Some r ≡ None = sym p ∙ q.1 in absurd cc
same_class w Ident (Word s) p q e = let a : Some s ≡ None = sym q ∙ p.1 in absurd cc
same_class w Ident Ident p q e = refl
same_class w Quoted Quoted p q e = refl
same_class w (Number a) (Number b) p q e = ap (λ d. Number d) (worth_one w a b p q)
same_class w (Symbol r) (Symbol s) p q e = let a : Some r ≡ Some s = sym p ∙ q in cc
same_class w End k p q e = absurd p
same_class w j End p q e = absurd q
same_class w j k p q e = absurd (omega arith)

pub kind_one : (w : List ℕ) (j k : TokenKind) → IsKind w j → IsKind w k → j ≡ k
kind_one w j k p q = same_class w j k p q (sym (class_is w j p) ∙ class_is w k q)

-- ---- one longest front

fronts : (w r v s : List ℕ) → w ++ r ≡ v ++ s → length w ≡ length v → (w ≡ v) × (r ≡ s)
fronts [] r [] s e h = (refl, e)
fronts [] r (c ∷ v) s e h = absurd (omega arith)
fronts (b ∷ w) r [] s e h = absurd (omega arith)
fronts (b ∷ w) r (c ∷ v) s e h =
    let i : b ≡ c = cc in
    let t : w ++ r ≡ v ++ s = cc in
    let k = fronts w r v s t (omega arith) in
    (let a : w ≡ v = k.0 in cc, k.1)

longest_one : (Class : List ℕ → Type 0) (w r v s : List ℕ) → IsLongest Class w r → IsLongest Class v s → w ++ r ≡ v ++ s → (w ≡ v) × (r ≡ s)
longest_one Class w r v s p q e = let a = p.longest v s e q.is in let b = q.longest w r (sym e) p.is in fronts w r v s e (omega arith)

-- ---- one step

empty_token : (w : List ℕ) → IsToken w → length w ≡ 0 → ⊥
empty_token [] t h = no_empty_token t
empty_token (c ∷ w) t h = absurd (omega arith)

pub next_within : (bytes : List ℕ) (from : ℕ) (l : Lexeme) → from ≤ length bytes → IsNext bytes from l → (from ≤ l.at) × (l.at < end_of l) × (end_of l ≤ length bytes)
next_within bytes from l h n =
    let a = ap length n.parts in
    let b = length-append n.gap (l.text ++ n.rest) in
    let c = length-append l.text n.rest in
    let d = length-drop from bytes in
    let e = n.begins in
    let f : 0 < length l.text = above (length l.text) (empty_token l.text n.is_token.is) in
    (omega arith, omega arith, omega arith)
  where
    above : (n : ℕ) → (n ≡ 0 → ⊥) → 0 < n
    above zero f = absurd (f refl)
    above (suc n) f = omega arith

end_some : (bytes gap rest : List ℕ) → IsGap bytes → bytes ≡ gap ++ rest → IsLongest IsGap gap rest → 0 < length rest → ⊥
end_some bytes gap rest h e l s =
    let a = l.longest bytes [] (sym e ∙ sym (append-nil bytes)) h in
    let b = ap length e in
    let c = length-append gap rest in
    absurd (omega arith)

pub end_next : (bytes : List ℕ) (from : ℕ) (l : Lexeme) → IsEnd bytes from → IsNext bytes from l → ⊥
end_next bytes from l h n = pick (length l.text) refl
  where
    pick : (m : ℕ) → length l.text ≡ m → ⊥
    pick zero e = empty_token l.text n.is_token.is e
    pick (suc m) e = end_some (drop from bytes) n.gap (l.text ++ n.rest) h n.parts n.is_between (let a = length-append l.text n.rest in omega arith)

end_stuck : (bytes : List ℕ) (from at : ℕ) → IsEnd bytes from → IsStuck bytes from at → ⊥
end_stuck bytes from at h s = end_some (drop from bytes) s.gap s.rest h s.parts s.is_between s.some

next_stuck : (bytes : List ℕ) (from at : ℕ) (l : Lexeme) → IsNext bytes from l → IsStuck bytes from at → ⊥
next_stuck bytes from at l n s =
    let g = longest_one IsGap n.gap (l.text ++ n.rest) s.gap s.rest n.is_between s.is_between (sym n.parts ∙ s.parts) in
    s.none l.text n.rest (sym g.1) n.is_token.is

stuck_one : (bytes : List ℕ) (from a b : ℕ) → IsStuck bytes from a → IsStuck bytes from b → a ≡ b
stuck_one bytes from a b s t =
    let g = longest_one IsGap s.gap s.rest t.gap t.rest s.is_between t.is_between (sym s.parts ∙ t.parts) in
    s.begins ∙ ap (λ (u : List ℕ). from + length u) g.0 ∙ sym t.begins

abbrev made_lexeme : TokenKind → List ℕ → ℕ → Lexeme
made_lexeme k x n = record { kind = k; text = x; at = n }

same_lexeme : (l m : Lexeme) → l.kind ≡ m.kind → l.text ≡ m.text → l.at ≡ m.at → l ≡ m
same_lexeme l m e f g = ap (λ (k : TokenKind). made_lexeme k l.text l.at) e ∙ ap (λ (x : List ℕ). made_lexeme m.kind x l.at) f ∙ ap (λ (n : ℕ). made_lexeme m.kind m.text n) g

pub next_one : (bytes : List ℕ) (from : ℕ) (l m : Lexeme) → IsNext bytes from l → IsNext bytes from m → l ≡ m
next_one bytes from l m p q =
    let g = longest_one IsGap p.gap (l.text ++ p.rest) q.gap (m.text ++ q.rest) p.is_between q.is_between (sym p.parts ∙ q.parts) in
    let w = longest_one IsToken l.text p.rest m.text q.rest p.is_token q.is_token g.1 in
    let F : List ℕ → Type 0 = λ u. IsKind u l.kind in
    same_lexeme l m (kind_one m.text l.kind m.kind (subst F w.0 p.kind) q.kind) w.0 (p.begins ∙ ap (λ (u : List ℕ). from + length u) g.0 ∙ sym q.begins)

-- ---- one reading

abbrev Same : List Lexeme → List Lexeme → Ending → Ending → Type 0
Same ls ms e f = (ls ≡ ms) × (e ≡ f)

pub reads_one : (bytes : List ℕ) (from : ℕ) (ls ms : List Lexeme) (e f : Ending) → Reads bytes from ls e → Reads bytes from ms f → Same ls ms e f
reads_one bytes from [] [] finished finished p q = (refl, refl)
reads_one bytes from [] [] finished (stuck b) p q = absurd (end_stuck bytes from b p q)
reads_one bytes from [] [] (stuck a) finished p q = absurd (end_stuck bytes from a q p)
reads_one bytes from [] [] (stuck a) (stuck b) p q = (refl, ap (λ (n : ℕ). stuck n) (stuck_one bytes from a b p q))
reads_one bytes from [] (m ∷ ms) finished f p q = absurd (end_next bytes from m p q.0)
reads_one bytes from [] (m ∷ ms) (stuck a) f p q = absurd (next_stuck bytes from a m q.0 p)
reads_one bytes from (l ∷ ls) [] e finished p q = absurd (end_next bytes from l q p.0)
reads_one bytes from (l ∷ ls) [] e (stuck b) p q = absurd (next_stuck bytes from b l p.0 q)
reads_one bytes from (l ∷ ls) (m ∷ ms) e f p q =
    let h = next_one bytes from l m p.0 q.0 in
    let F : Lexeme → Type 0 = λ u. Reads bytes (end_of u) ms f in
    let r = reads_one bytes (end_of l) ls ms e f p.1 (subst F (sym h) q.1) in
    (let a = r.0 in cc, r.1)
