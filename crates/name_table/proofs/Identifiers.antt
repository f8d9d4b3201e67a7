-- A text is an identifier exactly where its first token is an identifier and all of it.
use Rattle.std.proofs.Common.{◌≡◌, ℕ, suc, ◌+◌, ◌-◌, ◌≤◌, Bool, true, false, cond, nat_lt, nat_eq, List, [], ◌∷◌, length, take, drop, Some, None, refl, sym, ap, subst, ◌∙◌, arith, length-drop}
use Rattle.std.proofs.lemmas.List.{length-take-le}
use Rattle.std.specs.Prelude.{◌||◌, ◌&&◌, ◌==◌, ◌≢◌, nat_le, is_none, slice_range}
use Rattle.std.specs.List.{list_all}
use Rattle.std.proofs.lemmas.Bool.Decides.{nat_tests}
use Rattle.std.proofs.lemmas.Bool.{and_parts}
use Rattle.std.proofs.Math.Seq.{take-length, drop-length}
use Rattle.basics.specs.Numbers.{nat_eq-self}
use Rattle.basics.specs.Booleans.{same_test}
use Rattle.basics.specs.Options.{none_is}
use Rattle.bridge_io.specs.declared.reason.Fault.{Fault}
use Rattle.bridge_io.specs.declared.reason.Reason.TheVariants.{TooLong}
use Rattle.prism_lex.specs.declared.automaton.State.{State}
use Rattle.prism_lex.specs.declared.automaton.State.TheVariants.{Start}
use Rattle.prism_lex.specs.declared.token.Token.{Token}
use Rattle.prism_lex.specs.declared.token.TokenKind.{TokenKind}
use Rattle.prism_lex.specs.declared.token.TokenKind.TheVariants.{Word, Ident, Quoted, Number, Symbol, End}
use Rattle.prism_lex.specs.Automaton.{is_letter, is_digit, step, accepts, after, longest}
use Rattle.prism_lex.specs.Gaps.{is_separator, IsGap}
use Rattle.prism_lex.specs.Words.{lookup, words}
use Rattle.prism_lex.specs.Tokens.{is_name, IsKind, Lexeme, lexeme_of, refusal, refusal_of, IsNext, IsEnd, IsFault, refused, no_token, Continues, Finishes, finished, stuck}
use Rattle.prism_lex.specs.Front.{Begins}
use Rattle.prism_lex.proofs.LongestGap.{gap_dead}
use Rattle.prism_lex.proofs.Shapes.{name_state}
use Rattle.prism_lex.proofs.FrontLemmas.{begins_scanned}
use Rattle.prism_lex.proofs.NextLemmas.{lexeme, next_is}
use Rattle.prism_lex.proofs.Once.{next_one, end_next, reads_one}
use Rattle.prism_check.proofs.Stands.{last_one, one_more}
use Rattle.name_table.specs.Rule.{is_identifier}
use Rattle.name_table.specs.State.{is_ident, is_whole}

-- ---- what an identifier is

-- a text that is an identifier, by its parts
pub record Named (x : List ℕ) : Type 0 where
  pub name : is_name x ≡ true
  pub free : lookup x words ≡ None
  pub short : length x ≤ 255

pub named : (x : List ℕ) → is_identifier x ≡ true → Named x
named x h =
    let p = and_parts (is_name x) (is_none (lookup x words) && nat_le (length x) 255) h in
    let q = and_parts (is_none (lookup x words)) (nat_le (length x) 255) p.1 in
    let r = q.1 in
    record { name = p.0; free = none_is (lookup x words) q.0; short = grind (arith, nat_tests) }

pub identifier : (x : List ℕ) → Named x → is_identifier x ≡ true
identifier x n = rw (n.name, n.free) (short (length x) n.short)
  where
    short : (n : ℕ) → n ≤ 255 → nat_le n 255 ≡ true
    short n h = grind (arith, nat_tests)

-- ---- it is the first token

longest_all : (s : State) (b : ℕ) (w : List ℕ) → accepts (after s (b ∷ w)) ≡ true → longest s (b ∷ w) ≡ length (b ∷ w)
longest_all s b [] a = last_one 0 (accepts (step s b)) refl a
longest_all s b (c ∷ w) a = one_more (longest (step s b) (c ∷ w)) (length w) (accepts (step s b)) (longest_all (step s b) c w a)

none_more : (n : ℕ) → n ≡ 0 → cond (nat_lt 0 n) (suc n) 0 ≡ 0
none_more n e = rw e refl

-- a letter begins no gap
no_separator : (b : ℕ) → is_letter b ≡ true → is_separator b ≡ false
no_separator b h = grind (arith, nat_tests)

no_slash : (b : ℕ) → is_letter b ≡ true → (b == 47) ≡ false
no_slash b h = grind (arith, nat_tests)

pub first : (x : List ℕ) → Named x → IsNext x 0 (lexeme Ident x 0)
first [] n = let h = n.name in absurd cc
first (b ∷ w) n =
    let x = b ∷ w in
    let l = (and_parts (is_letter b) (list_all (λ c. is_letter c || is_digit c) w) n.name).0 in
    let a : accepts (after Start x) ≡ true = ap accepts (name_state x n.name) in
    let F : List ℕ → Type 0 = λ u. IsKind u Ident in
    let t = take-length x in
    let g : Begins x Ident (length x) = begins_scanned x (length x) Ident (sym (longest_all Start b w a)) (omega arith) (subst F (sym t) (n.name, n.free)) in
    let G : List ℕ → Type 0 = λ u. IsNext x 0 (lexeme Ident u 0) in
    let p = no_separator b l in
    let q = no_slash b l in
    subst G t (next_is x 0 0 Ident (length x) (rw (p, q) (sym (none_more _ (gap_dead w)))) g)

-- ---- what the code has

-- the token is an identifier from the first byte to the last
pub record Whole (x : List ℕ) (t : Token) : Type 0 where
  pub kind : t.kind ≡ Ident
  pub at : t.at ≡ 0
  pub end : t.end ≡ length x

range_length : (x : List ℕ) (n m : ℕ) → n ≤ m → m ≤ length x → length (slice_range x n m) + n ≡ m
range_length x n m h k =
    let d = length-drop n x in
    let t = length-take-le (m - n) (drop n x) (omega arith) in
    omega arith

same_token : (x : List ℕ) (t : Token) → Named x → Continues x 0 t → Whole x t
same_token x t n c =
    let e = next_one x 0 (lexeme_of x t) (lexeme Ident x 0) c.next (first x n) in
    let k = ap (λ (l : Lexeme). l.kind) e in
    let a = ap (λ (l : Lexeme). l.at) e in
    let w = ap (λ (l : Lexeme). length l.text) e in
    let b = c.some in
    let r = range_length x t.at t.end (omega arith) c.within in
    record { kind = k; at = a; end = omega arith }

no_finish : (x : List ℕ) (t : Token) → Named x → Finishes x 0 t → ⊥
no_finish x t n f = end_next x 0 (lexeme Ident x 0) f.gap (first x n)

pub token_whole : (x : List ℕ) (t : Token) → (t.kind ≢ End → Continues x 0 t) → (t.kind ≡ End → Finishes x 0 t) → Named x → Whole x t
token_whole x t f g n = go t.kind refl
  where
    go : (k : TokenKind) → t.kind ≡ k → Whole x t
    go End e = absurd (no_finish x t n (g e))
    go Ident e = same_token x t n (f (λ d. cc))
    go (Word w) e = same_token x t n (f (λ d. cc))
    go Quoted e = same_token x t n (f (λ d. cc))
    go (Number w) e = same_token x t n (f (λ d. cc))
    go (Symbol w) e = same_token x t n (f (λ d. cc))

short_is : (x : List ℕ) → refusal Ident x ≡ None → length x ≤ 255
short_is x h = go (nat_lt 255 (length x)) refl h
  where
    go : (b : Bool) → nat_lt 255 (length x) ≡ b → cond b (Some TooLong) None ≡ None → length x ≤ 255
    go true e h = absurd cc
    go false e h = grind (arith, nat_tests)

range_all : (x : List ℕ) → slice_range x 0 (length x) ≡ x
range_all x = let e : length x - 0 ≡ length x = omega arith in ap (λ (n : ℕ). take n x) e ∙ take-length x

pub whole_named : (x : List ℕ) (t : Token) → (t.kind ≢ End → Continues x 0 t) → Whole x t → Named x
whole_named x t f w =
    let c = f (λ e. let d : Ident ≡ End = sym w.kind ∙ e in cc) in
    let k = w.kind in
    let r : slice_range x t.at t.end ≡ x = rw (w.at, w.end) (range_all x) in
    let F : TokenKind → Type 0 = λ u. IsKind (slice_range x t.at t.end) u in
    let G : List ℕ → Type 0 = λ u. IsKind u Ident in
    let p : IsKind x Ident = subst G r (subst F w.kind c.next.kind) in
    let s : refusal Ident x ≡ None = ap (refusal Ident) (sym r) ∙ ap (λ (u : TokenKind). refusal u (slice_range x t.at t.end)) (sym w.kind) ∙ c.accepted in
    record { name = p.0; free = p.1; short = short_is x s }

kind_is : (k : TokenKind) → is_ident k ≡ true → k ≡ Ident
kind_is Ident h = refl
kind_is End h = absurd cc
kind_is Quoted h = absurd cc
kind_is (Word w) h = absurd cc
kind_is (Number w) h = absurd cc
kind_is (Symbol w) h = absurd cc

is_whole_is : (x : List ℕ) (t : Token) → is_whole t (length x) ≡ true → Whole x t
is_whole_is x t h =
    let p = and_parts (is_ident t.kind) (nat_eq t.at 0 && nat_eq t.end (length x)) h in
    let q = and_parts (nat_eq t.at 0) (nat_eq t.end (length x)) p.1 in
    let a = q.0 in
    let b = q.1 in
    record { kind = kind_is t.kind p.0; at = grind (arith, nat_tests); end = grind (arith, nat_tests) }

whole_is : (x : List ℕ) (t : Token) → Whole x t → is_whole t (length x) ≡ true
whole_is x t w = rw (w.kind, w.at, w.end) (nat_eq-self (length x))

-- what the code asks of the first token
pub asked : (x : List ℕ) (t : Token) → (t.kind ≢ End → Continues x 0 t) → (t.kind ≡ End → Finishes x 0 t) → is_whole t (length x) ≡ is_identifier x
asked x t f g =
    same_test (is_whole t (length x)) (is_identifier x)
    (λ h. identifier x (whole_named x t f (is_whole_is x t h)))
    (λ h. whole_is x t (token_whole x t f g (named x h)))

-- ---- a fault

ends : (x : List ℕ) → IsEnd x (length x)
ends x = let F : List ℕ → Type 0 = λ u. IsGap u in subst F (sym (drop-length x)) refl

no_fault : (x : List ℕ) (f : Fault) → Named x → IsFault x 0 f → ⊥
no_fault x f n (refused l next r a) =
    let e = next_one x 0 l (lexeme Ident x 0) next (first x n) in
    let s : refusal Ident x ≡ Some f.reason = ap refusal_of (sym e) ∙ r in
    let h : refusal Ident x ≡ None = short_none (length x) n.short in
    let b : Some f.reason ≡ None = sym s ∙ h in
    cc
  where
    short_none : (m : ℕ) → m ≤ 255 → cond (nat_lt 255 m) (Some TooLong) None ≡ None
    short_none m h = let k : nat_lt 255 m ≡ false = grind (arith, nat_tests) in rw k refl
no_fault x f n (no_token s r) =
    let e = (reads_one x 0 [] (lexeme Ident x 0 ∷ []) (stuck f.at) finished s (first x n, ends_at x)).0 in
    cc
  where
    ends_at : (x : List ℕ) → IsEnd x (0 + length x)
    ends_at x = let e : length x ≡ 0 + length x = omega arith in let F : ℕ → Type 0 = λ u. IsEnd x u in subst F e (ends x)

pub fault_none : (x : List ℕ) (f : Fault) → IsFault x 0 f → false ≡ is_identifier x
fault_none x f h = same_test false (is_identifier x) (λ e. absurd cc) (λ e. absurd (no_fault x f (named x e) h))

-- ---- at the bytes of the text

pub asked_of : (x y : List ℕ) (t : Token) (r : Bool) → y ≡ x → (t.kind ≢ End → Continues y 0 t) → (t.kind ≡ End → Finishes y 0 t) → r ≡ is_whole t (length x) → r ≡ is_identifier x
asked_of x y t r e f g h =
    let F : List ℕ → Type 0 = λ u. Continues u 0 t in
    let G : List ℕ → Type 0 = λ u. Finishes u 0 t in
    h ∙ asked x t (λ k. subst F e (f k)) (λ k. subst G e (g k))

pub fault_of : (x y : List ℕ) (f : Fault) → y ≡ x → IsFault y 0 f → false ≡ is_identifier x
fault_of x y f e h = let F : List ℕ → Type 0 = λ u. IsFault u 0 f in fault_none x f (subst F e h)
