-- Each text has a reading, and what a reader that goes from token to token knows of it.
use Rattle.std.proofs.Common.{◌≡◌, ℕ, zero, suc, ◌+◌, ◌-◌, ◌≤◌, ◌<◌, Bool, true, false, List, [], ◌∷◌, ◌++◌, length, take, drop, Option, Some, None, refl, sym, ap, subst, ◌∙◌, arith, inl, inr, append-nil, length-drop}
use Rattle.std.specs.Prelude.{◌⊎◌, nat_lt, ◌==◌}
use Rattle.std.proofs.lemmas.Bool.Decides.{nat_tests}
use Rattle.std.proofs.lemmas.List.{length-take-le}
use Rattle.bridge_io.specs.declared.reason.Reason.{Reason}
use Rattle.bridge_io.specs.declared.reason.Fault.{Fault}
use Rattle.prism_lex.specs.declared.gap.Gap.TheVariants.{Between}
use Rattle.prism_lex.specs.declared.automaton.State.{State}
use Rattle.prism_lex.specs.declared.automaton.State.TheVariants.{Start, Letters, Whole, Point, Part, Mark, Sign, Power, Quote, Inside, Closed, Dead}
use Rattle.prism_lex.specs.declared.symbols.Symbol as symbol
use Rattle.prism_lex.specs.declared.words.Reserved.{Reserved}
use Rattle.prism_lex.specs.declared.token.Token.{Token}
use Rattle.prism_lex.specs.declared.token.TokenKind.{TokenKind}
use Rattle.prism_lex.specs.declared.token.TokenKind.TheVariants.{Word, Ident, Quoted, Number, Symbol}
use Rattle.prism_lex.specs.Words.{lookup, words}
use Rattle.prism_lex.specs.Symbols.{front_symbol}
use Rattle.prism_lex.specs.Automaton.{accepts, after, longest}
use Rattle.prism_lex.specs.Numbers.{is_at_digit}
use Rattle.prism_lex.specs.Gaps.{gap_len}
use Rattle.prism_lex.specs.Tokens.{is_name, IsToken, Lexeme, end_of, lexeme_of, refusal_of, IsNext, IsEnd, IsStuck, Ending, finished, stuck, Reads, Tokens, fault, with_fault, faults_of, IsFault, refused, no_token}
use Rattle.prism_lex.specs.Front.{Begins, BeginsNone}
use Rattle.prism_lex.specs.Laws.{OneReading, OneList, OneFaults, SomeFaults, Reaches, AllAccepted, AllBehind, IsFirstFault, NextGoesOn, EndIsWhole, FaultIsFirst, CleanIsFaultless}
use Rattle.prism_lex.proofs.Longest.{longest_is}
use Rattle.prism_lex.proofs.Shapes.{state_name, state_quoted, accepted_number}
use Rattle.prism_lex.proofs.Worth.{worth_some}
use Rattle.prism_lex.proofs.LongestSymbol.{Best, symbol_best}
use Rattle.prism_lex.proofs.FrontLemmas.{begins_scanned, begins_symbol, begins_none}
use Rattle.prism_lex.proofs.NextLemmas.{lexeme, next_is, stuck_at, end_at}
use Rattle.prism_lex.proofs.Once.{next_within, reads_one}

-- ---- one step

-- A text that the automaton accepts is a token.
kind_exists : (w : List ℕ) → accepts (after Start w) ≡ true → IsToken w
kind_exists w h = pick (after Start w) refl
  where
    name : is_name w ≡ true → (o : Option Reserved) → lookup w words ≡ o → IsToken w
    name n (Some r) e = (Word r, e)
    name n None e = (Ident, (n, e))

    number : (s : State) → after Start w ≡ s → accepts s ≡ true → (s ≡ Letters → ⊥) → (s ≡ Closed → ⊥) → IsToken w
    number s e a f g = let v = worth_some w (let F : State → Type 0 = λ u. is_at_digit u ≡ true in subst F (sym e) (accepted_number s a f g)) in (Number v.0, v.1)

    pick : (s : State) → after Start w ≡ s → IsToken w
    pick Letters e = name (state_name w e) (lookup w words) refl
    pick Closed e = (Quoted, state_quoted w e)
    pick Whole e = number Whole e refl (λ f. cc) (λ f. cc)
    pick Part e = number Part e refl (λ f. cc) (λ f. cc)
    pick Power e = number Power e refl (λ f. cc) (λ f. cc)
    pick s e = let a = ap accepts e in absurd cc

abbrev HasFront : List ℕ → Type 0
HasFront bytes = ((k : TokenKind) × (n : ℕ) × Begins bytes k n) ⊎ BeginsNone bytes

front_of : (bytes : List ℕ) → HasFront bytes
front_of bytes = pick (nat_lt 0 (longest Start bytes)) refl
  where
    at_symbol : longest Start bytes ≡ 0 → (o : Option (symbol.Symbol × ℕ)) → Best bytes o → HasFront bytes
    at_symbol e None b = inr (begins_none bytes e b)
    at_symbol e (Some r) b = inl (Symbol r.0, r.1, begins_symbol bytes r.1 r.0 e b)

    pick : (t : Bool) → nat_lt 0 (longest Start bytes) ≡ t → HasFront bytes
    pick true e =
        let h : 0 < longest Start bytes = grind (arith, nat_tests) in
        let k = kind_exists (take (longest Start bytes) bytes) (longest_is Start bytes h) in
        inl (k.0, longest Start bytes, begins_scanned bytes (longest Start bytes) k.0 refl h k.1)
    pick false e = at_symbol (grind (arith, nat_tests)) (front_symbol bytes) (symbol_best bytes)

-- what comes next from an offset on
data Step (bytes : List ℕ) (from : ℕ) : Type 0 where
  ends : IsEnd bytes from → Step bytes from
  goes : (l : Lexeme) → IsNext bytes from l → Step bytes from
  stops : (at : ℕ) → IsStuck bytes from at → Step bytes from

step_of : (bytes : List ℕ) (from : ℕ) → Step bytes from
step_of bytes from = pick (length behind == 0) refl (front_of behind)
  where
    n : ℕ
    n = gap_len Between (drop from bytes)

    behind : List ℕ
    behind = drop n (drop from bytes)

    pick : (t : Bool) → (length behind == 0) ≡ t → HasFront behind → Step bytes from
    pick true e h = ends (end_at bytes from n refl (grind (arith, nat_tests)))
    pick false e (inl b) = goes (lexeme b.0 (take b.1 behind) (from + n)) (next_is bytes from n b.0 b.1 refl b.2)
    pick false e (inr b) = stops (from + n) (stuck_at bytes from n refl (grind (arith, nat_tests)) b)

-- ---- each text has a reading

abbrev HasReading : List ℕ → ℕ → Type 0
HasReading bytes from = (ls : List Lexeme) × (e : Ending) × Reads bytes from ls e

-- by the bytes that are left, or more
reading_from : (left : ℕ) (bytes : List ℕ) (from : ℕ) → from ≤ length bytes → length bytes ≤ from + left → HasReading bytes from
reading_from zero bytes from h k = last (step_of bytes from)
  where
    last : Step bytes from → HasReading bytes from
    last (ends e) = ([], finished, e)
    last (goes l n) = let w = next_within bytes from l h n in absurd (omega (arith, w.0, w.1, w.2))
    last (stops at s) = ([], stuck at, s)
reading_from (suc left) bytes from h k = go (λ (at : ℕ). reading_from left bytes at) (step_of bytes from)
  where
    go : ((at : ℕ) → at ≤ length bytes → length bytes ≤ at + left → HasReading bytes at) → Step bytes from → HasReading bytes from
    go r (ends e) = ([], finished, e)
    go r (goes l n) =
        let w = next_within bytes from l h n in
        let q = r (end_of l) w.2 (omega (arith, w.0, w.1)) in
        (l ∷ q.0, q.1, (n, q.2))
    go r (stops at s) = ([], stuck at, s)

reading_at : (bytes : List ℕ) (from : ℕ) → from ≤ length bytes → HasReading bytes from
reading_at bytes from h = reading_from (length bytes) bytes from h (omega arith)

-- ---- the laws

pub one_reading : OneReading
one_reading bytes from ls ms e f p q = reads_one bytes from ls ms e f p q

pub one_list : OneList
one_list bytes ls ms p q = (reads_one bytes 0 ls ms finished finished p q).0

pub one_faults : OneFaults
one_faults bytes fs gs p q =
    let r = reads_one bytes 0 p.0 q.0 p.1 q.1 p.2 q.2 in
    p.3 ∙ ap (λ (u : List Lexeme). faults_of u p.1) r.0 ∙ ap (λ (u : Ending). faults_of q.0 u) r.1 ∙ sym q.3

pub some_faults : SomeFaults
some_faults bytes = let r = reading_at bytes 0 (omega arith) in (faults_of r.0 r.1, (r.0, r.1, r.2, refl))

-- ---- a reader

reaches_more : (bytes : List ℕ) (from to : ℕ) (ls : List Lexeme) (l : Lexeme) → Reaches bytes from ls to → IsNext bytes to l → refusal_of l ≡ None → Reaches bytes from (ls ++ l ∷ []) (end_of l)
reaches_more bytes from to [] l r n a = let F : ℕ → Type 0 = λ u. IsNext bytes u l in (subst F (sym r) n, a, refl)
reaches_more bytes from to (m ∷ ls) l r n a = (r.0, r.1, reaches_more bytes (end_of m) to ls l r.2 n a)

-- what is read from the offset on that a reader has come to goes on with its list
reads_on : (bytes : List ℕ) (from to : ℕ) (ls ms : List Lexeme) (e : Ending) → Reaches bytes from ls to → Reads bytes to ms e → Reads bytes from (ls ++ ms) e
reads_on bytes from to [] ms e r q = let F : ℕ → Type 0 = λ u. Reads bytes u ms e in subst F (sym r) q
reads_on bytes from to (l ∷ ls) ms e r q = (r.0, reads_on bytes (end_of l) to ls ms e r.2 q)

all_accepted : (bytes : List ℕ) (from to : ℕ) (ls : List Lexeme) → Reaches bytes from ls to → AllAccepted ls
all_accepted bytes from to [] r = tt
all_accepted bytes from to (l ∷ ls) r = (r.1, all_accepted bytes (end_of l) to ls r.2)

-- the tokens of a reader have no faults
faults_on : (bytes : List ℕ) (from to : ℕ) (ls ms : List Lexeme) (e : Ending) → Reaches bytes from ls to → faults_of (ls ++ ms) e ≡ faults_of ms e
faults_on bytes from to [] ms e r = refl
faults_on bytes from to (l ∷ ls) ms e r = ap (λ (o : Option Reason). with_fault o l.at (faults_of (ls ++ ms) e)) r.1 ∙ faults_on bytes (end_of l) to ls ms e r.2

reaches_within : (bytes : List ℕ) (from to : ℕ) (ls : List Lexeme) → Reaches bytes from ls to → from ≤ length bytes → to ≤ length bytes
reaches_within bytes from to [] r h = omega arith
reaches_within bytes from to (l ∷ ls) r h = reaches_within bytes (end_of l) to ls r.2 ((next_within bytes from l h r.0).2)

lexeme_end : (bytes : List ℕ) (t : Token) → t.at < t.end → t.end ≤ length bytes → end_of (lexeme_of bytes t) ≡ t.end
lexeme_end bytes t h k =
    let a = length-drop t.at bytes in
    let b = length-take-le (t.end - t.at) (drop t.at bytes) (omega arith) in
    omega arith

pub next_goes_on : NextGoesOn
next_goes_on bytes from to ls t r c =
    let F : ℕ → Type 0 = λ u. Reaches bytes from (ls ++ lexeme_of bytes t ∷ []) u in
    subst F (lexeme_end bytes t c.some c.within) (reaches_more bytes from to ls (lexeme_of bytes t) r c.next c.accepted)

pub end_is_whole : EndIsWhole
end_is_whole bytes to ls r h =
    let F : List Lexeme → Type 0 = λ u. Tokens bytes u in
    let q : Reads bytes 0 (ls ++ []) finished = reads_on bytes 0 to ls [] finished r h in
    (subst F (append-nil ls) q, all_accepted bytes 0 to ls r, (ls ++ [], finished, q, sym (faults_on bytes 0 to ls [] finished r)))

-- the faults of what is read from an offset on stand behind what stands before it
all_behind : (bytes : List ℕ) (at from : ℕ) (ls : List Lexeme) (e : Ending) → from ≤ length bytes → at < from → Reads bytes from ls e → AllBehind at (faults_of ls e)
all_behind bytes at from [] finished h k r = tt
all_behind bytes at from [] (stuck n) h k r = (let a = r.begins in omega arith, tt)
all_behind bytes at from (l ∷ ls) e h k r =
    let w = next_within bytes from l h r.0 in
    let rest = all_behind bytes at (end_of l) ls e w.2 (omega (arith, w.0, w.1)) r.1 in
    pick (refusal_of l) (omega (arith, w.0)) rest
  where
    pick : (o : Option Reason) → at < l.at → AllBehind at (faults_of ls e) → AllBehind at (with_fault o l.at (faults_of ls e))
    pick None a b = b
    pick (Some reason) a b = (a, b)

first_fault : (bytes : List ℕ) (to : ℕ) (ls : List Lexeme) (f : Fault) → Reaches bytes 0 ls to → IsFault bytes to f → IsFirstFault bytes f
first_fault bytes to ls f r (refused l n a e) =
    let w = next_within bytes to l (reaches_within bytes 0 to ls r (omega arith)) n in
    let q = reading_at bytes (end_of l) w.2 in
    let fs = faults_of q.0 q.1 in
    let same : faults_of (ls ++ l ∷ q.0) q.1 ≡ f ∷ fs = faults_on bytes 0 to ls (l ∷ q.0) q.1 r ∙ ap (λ (o : Option Reason). with_fault o l.at fs) a ∙ ap (λ (m : ℕ). fault f.reason m ∷ fs) (sym e) in
    (fs, (ls ++ l ∷ q.0, q.1, reads_on bytes 0 to ls (l ∷ q.0) q.1 r (n, q.2), sym same), all_behind bytes f.at (end_of l) q.0 q.1 w.2 (omega (arith, w.1, e)) q.2)
first_fault bytes to ls f r (no_token s e) =
    let same : faults_of (ls ++ []) (stuck f.at) ≡ f ∷ [] = faults_on bytes 0 to ls [] (stuck f.at) r ∙ ap (λ (u : Reason). fault u f.at ∷ []) (sym e) in
    ([], (ls ++ [], stuck f.at, reads_on bytes 0 to ls [] (stuck f.at) r s, sym same), tt)

no_faults : (ls : List Lexeme) → AllAccepted ls → faults_of ls finished ≡ []
no_faults [] a = refl
no_faults (l ∷ ls) a = ap (λ (o : Option Reason). with_fault o l.at (faults_of ls finished)) a.0 ∙ no_faults ls a.1

pub fault_is_first : FaultIsFirst
fault_is_first bytes to ls f r h = (first, λ ms q a. none ms q a)
  where
    first : IsFirstFault bytes f
    first = first_fault bytes to ls f r h

    none : (ms : List Lexeme) → Tokens bytes ms → AllAccepted ms → ⊥
    none ms q a = let e : f ∷ first.0 ≡ [] = one_faults bytes (f ∷ first.0) [] first.1 (ms, finished, q, sym (no_faults ms a)) in absurd cc

-- ---- texts without a fault

no_refusal : (o : Option Reason) (at : ℕ) (fs : List Fault) → with_fault o at fs ≡ [] → (o ≡ None) × (fs ≡ [])
no_refusal None at fs h = (refl, h)
no_refusal (Some reason) at fs h = absurd cc

faultless : (bytes : List ℕ) (from : ℕ) (ls : List Lexeme) (e : Ending) → Reads bytes from ls e → faults_of ls e ≡ [] → Reads bytes from ls finished × AllAccepted ls
faultless bytes from [] finished r h = (r, tt)
faultless bytes from [] (stuck at) r h = absurd cc
faultless bytes from (l ∷ ls) e r h =
    let a = no_refusal (refusal_of l) l.at (faults_of ls e) h in
    let b = faultless bytes (end_of l) ls e r.1 a.1 in
    ((r.0, b.0), (a.0, b.1))

pub clean_is_faultless : CleanIsFaultless
clean_is_faultless bytes = (λ c. (c.0, finished, c.1, sym (no_faults c.0 c.2)), λ f. let q = faultless bytes 0 f.0 f.1 f.2 (sym f.3) in (f.0, q.0, q.1))
