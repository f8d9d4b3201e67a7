-- The longest symbol at the front.
use Rattle.std.proofs.Common.{◌≡◌, ℕ, suc, ◌≤◌, ◌<◌, Bool, true, false, cond, List, [], ◌∷◌, ◌++◌, length, take, get_or, Option, Some, None, refl, sym, ap, subst, ◌∙◌, arith, nat_lt}
use Rattle.std.specs.Prelude.{◌||◌, ◌==◌, is_some, not}
use Rattle.std.specs.List.{list_any}
use Rattle.std.proofs.lemmas.Bool.Decides.{nat_tests}
use Rattle.std.proofs.Math.Bool.{and-true, and-false}
use Rattle.prism_lex.specs.declared.symbols.Symbol.{Symbol}
use Rattle.prism_lex.specs.declared.automaton.State.{State}
use Rattle.prism_lex.specs.declared.automaton.State.TheVariants.{Start, Letters, Whole, Point, Part, Mark, Sign, Power, Quote, Inside, Closed, Dead}
use Rattle.prism_lex.specs.Words.{lookup, symbols}
use Rattle.prism_lex.specs.Automaton.{step, accepts, after, longest}
use Rattle.prism_lex.proofs.Tables.{lookup_none}
use Rattle.prism_lex.proofs.Longest.{longest_dead}
use Rattle.prism_lex.specs.Symbols.{symbol_of_one, symbol_of_two, symbol_of_three, symbol_or, front_symbol}

-- The table has just the symbols of one, of two and of three bytes.
lookup_one : (a : ℕ) → lookup (a ∷ []) symbols ≡ symbol_of_one a
unfolding symbols
lookup_one a = simp (and-true, and-false)

lookup_two : (a b : ℕ) → lookup (a ∷ b ∷ []) symbols ≡ symbol_of_two a b
unfolding symbols
lookup_two a b = simp (and-true, and-false)

lookup_three : (a b c : ℕ) → lookup (a ∷ b ∷ c ∷ []) symbols ≡ symbol_of_three a b c
unfolding symbols
lookup_three a b c = simp (and-true, and-false)

no_zero_two : (a : ℕ) → symbol_of_two a 0 ≡ None
no_zero_two a = simp (and-false)

no_zero_three : (a b : ℕ) → symbol_of_three a b 0 ≡ None
no_zero_three a b = simp (and-false)

-- What is said of the longest symbol that stands at the front, where one does.
pub record IsBest (bytes : List ℕ) (s : Symbol) (n : ℕ) : Type 0 where
  pub above : 0 < n
  pub within : n ≤ length bytes
  pub is : lookup (take n bytes) symbols ≡ Some s
  pub most : (v z : List ℕ) → bytes ≡ v ++ z → is_some (lookup v symbols) ≡ true → length v ≤ n

abbrev pub NoSymbol : List ℕ → Type 0
NoSymbol bytes = (v z : List ℕ) → bytes ≡ v ++ z → is_some (lookup v symbols) ≡ true → ⊥

abbrev pub Best : List ℕ → Option (Symbol × ℕ) → Type 0
Best bytes None = NoSymbol bytes
Best bytes (Some r) = IsBest bytes r.0 r.1

pub no_empty : is_some (lookup [] symbols) ≡ true → ⊥
unfolding symbols
no_empty h = absurd cc

abbrev is_long : List ℕ → Bool
is_long w = nat_lt 3 (length w)

none_long : list_any (λ e. is_long e.0) symbols ≡ false
unfolding symbols
none_long = refl

-- A symbol has at most three bytes.
symbol_short : (v : List ℕ) → is_some (lookup v symbols) ≡ true → length v ≤ 3
symbol_short v h = let a : is_long v ≡ false = lookup_none is_long symbols v none_long h in grind (arith, nat_tests)

none_some : {A : Type 0} (o : Option A) → o ≡ None → is_some o ≡ true → ⊥
none_some None e h = absurd cc
none_some (Some x) e h = absurd cc

-- ---- what three bytes tell of a text

abbrev three_of : List ℕ → Option Symbol
three_of bytes = symbol_of_three (get_or bytes 0 0) (get_or bytes 1 0) (get_or bytes 2 0)

abbrev two_of : List ℕ → Option Symbol
two_of bytes = symbol_of_two (get_or bytes 0 0) (get_or bytes 1 0)

abbrev one_of : List ℕ → Option Symbol
one_of bytes = symbol_of_one (get_or bytes 0 0)

abbrev Stands : List ℕ → Symbol → ℕ → Type 0
Stands bytes s n = (n ≤ length bytes) × (lookup (take n bytes) symbols ≡ Some s)

three_stands : (bytes : List ℕ) (s : Symbol) → three_of bytes ≡ Some s → Stands bytes s 3
three_stands [] s e = absurd cc
three_stands (a ∷ []) s e = let f = no_zero_three a 0 in absurd cc
three_stands (a ∷ b ∷ []) s e = let f = no_zero_three a b in absurd cc
three_stands (a ∷ b ∷ c ∷ bs) s e = (omega arith, lookup_three a b c ∙ e)

two_stands : (bytes : List ℕ) (s : Symbol) → two_of bytes ≡ Some s → Stands bytes s 2
two_stands [] s e = absurd cc
two_stands (a ∷ []) s e = let f = no_zero_two a in absurd cc
two_stands (a ∷ b ∷ bs) s e = (omega arith, lookup_two a b ∙ e)

one_stands : (bytes : List ℕ) (s : Symbol) → one_of bytes ≡ Some s → Stands bytes s 1
one_stands [] s e = absurd cc
one_stands (a ∷ bs) s e = (omega arith, lookup_one a ∙ e)

not_three : (bytes v z : List ℕ) → three_of bytes ≡ None → bytes ≡ v ++ z → is_some (lookup v symbols) ≡ true → length v ≡ 3 → ⊥
not_three bytes (a ∷ b ∷ c ∷ []) z n e h l = none_some _ (lookup_three a b c ∙ (let F : List ℕ → Type 0 = λ u. three_of u ≡ None in subst F e n)) h
not_three bytes [] z n e h l = absurd (omega arith)
not_three bytes (a ∷ []) z n e h l = absurd (omega arith)
not_three bytes (a ∷ b ∷ []) z n e h l = absurd (omega arith)
not_three bytes (a ∷ b ∷ c ∷ d ∷ v) z n e h l = absurd (omega arith)

not_two : (bytes v z : List ℕ) → two_of bytes ≡ None → bytes ≡ v ++ z → is_some (lookup v symbols) ≡ true → length v ≡ 2 → ⊥
not_two bytes (a ∷ b ∷ []) z n e h l = none_some _ (lookup_two a b ∙ (let F : List ℕ → Type 0 = λ u. two_of u ≡ None in subst F e n)) h
not_two bytes [] z n e h l = absurd (omega arith)
not_two bytes (a ∷ []) z n e h l = absurd (omega arith)
not_two bytes (a ∷ b ∷ c ∷ v) z n e h l = absurd (omega arith)

not_one : (bytes v z : List ℕ) → one_of bytes ≡ None → bytes ≡ v ++ z → is_some (lookup v symbols) ≡ true → length v ≡ 1 → ⊥
not_one bytes (a ∷ []) z n e h l = none_some _ (lookup_one a ∙ (let F : List ℕ → Type 0 = λ u. one_of u ≡ None in subst F e n)) h
not_one bytes [] z n e h l = absurd (omega arith)
not_one bytes (a ∷ b ∷ v) z n e h l = absurd (omega arith)

not_none : (v : List ℕ) → is_some (lookup v symbols) ≡ true → length v ≡ 0 → ⊥
not_none [] h l = no_empty h
not_none (a ∷ v) h l = absurd (omega arith)

below : (n m : ℕ) → n ≤ suc m → (n ≡ suc m → ⊥) → n ≤ m
below n m h f = go (n == suc m) refl
  where
    go : (t : Bool) → (n == suc m) ≡ t → n ≤ m
    go true e = absurd (f (grind (arith, nat_tests)))
    go false e = grind (arith, nat_tests)

pub symbol_best : (bytes : List ℕ) → Best bytes (front_symbol bytes)
symbol_best bytes = pick (three_of bytes) refl (two_of bytes) refl (one_of bytes) refl
  where
    most_two : three_of bytes ≡ None → (v z : List ℕ) → bytes ≡ v ++ z → is_some (lookup v symbols) ≡ true → length v ≤ 2
    most_two n v z e h = below _ 2 (symbol_short v h) (not_three bytes v z n e h)

    most_one : three_of bytes ≡ None → two_of bytes ≡ None → (v z : List ℕ) → bytes ≡ v ++ z → is_some (lookup v symbols) ≡ true → length v ≤ 1
    most_one n m v z e h = below _ 1 (most_two n v z e h) (not_two bytes v z m e h)

    pick : (c : Option Symbol) → three_of bytes ≡ c → (b : Option Symbol) → two_of bytes ≡ b → (a : Option Symbol) → one_of bytes ≡ a → Best bytes (symbol_or c 3 (symbol_or b 2 (symbol_or a 1 None)))
    pick (Some s) e b f a g = let h = three_stands bytes s e in record { above = omega arith; within = h.0; is = h.1; most = λ v z k l. symbol_short v l }
    pick None e (Some s) f a g = let h = two_stands bytes s f in record { above = omega arith; within = h.0; is = h.1; most = most_two e }
    pick None e None f (Some s) g = let h = one_stands bytes s g in record { above = omega arith; within = h.0; is = h.1; most = most_one e f }
    pick None e None f None g = λ v z k l. not_none v l (omega (arith, below _ 0 (most_one e f v z k l) (not_one bytes v z g k l)))

-- ---- where a symbol stands, no other token does

abbrev is_dead : State → Bool
is_dead Dead = true
is_dead _ = false

abbrev is_loud : List ℕ → Bool
is_loud w = nat_lt 0 (longest Start w) || not (is_dead (after Start w))

none_loud : list_any (λ e. is_loud e.0) symbols ≡ false
unfolding symbols
none_loud = refl

dead_is : (s : State) → is_dead s ≡ true → s ≡ Dead
dead_is Dead h = refl
dead_is s h = absurd cc

silent_parts : (a b : Bool) → (a || not b) ≡ false → (a ≡ false) × (b ≡ true)
silent_parts true b h = absurd cc
silent_parts false true h = (refl, refl)
silent_parts false false h = absurd cc

none_on : (n m : ℕ) (a : Bool) → cond (nat_lt 0 n) (suc n) (cond a 1 0) ≡ 0 → (n ≡ 0 → m ≡ 0) → cond (nat_lt 0 m) (suc m) (cond a 1 0) ≡ 0
none_on n m a h f = go (nat_lt 0 n) refl a h
  where
    go : (t : Bool) → nat_lt 0 n ≡ t → (a : Bool) → cond t (suc n) (cond a 1 0) ≡ 0 → cond (nat_lt 0 m) (suc m) (cond a 1 0) ≡ 0
    go true e a h = absurd (omega arith)
    go false e true h = absurd (omega arith)
    go false e false h = let k : m ≡ 0 = f (grind (arith, nat_tests)) in rw k refl

longest_over : (s : State) (v z : List ℕ) → longest s v ≡ 0 → after s v ≡ Dead → longest s (v ++ z) ≡ 0
longest_over s [] z h d = ap (λ (u : State). longest u z) d ∙ longest_dead z
longest_over s (b ∷ v) z h d = none_on (longest (step s b) v) (longest (step s b) (v ++ z)) (accepts (step s b)) h (λ e. longest_over (step s b) v z e d)

-- A symbol leads nowhere in the automaton.
pub symbol_dead : (v : List ℕ) → is_some (lookup v symbols) ≡ true → after Start v ≡ Dead
symbol_dead v h = dead_is (after Start v) ((silent_parts (nat_lt 0 (longest Start v)) (is_dead (after Start v)) (lookup_none is_loud symbols v none_loud h)).1)

pub symbol_alone : (bytes v z : List ℕ) → bytes ≡ v ++ z → is_some (lookup v symbols) ≡ true → longest Start bytes ≡ 0
symbol_alone bytes v z e h =
    let q = silent_parts (nat_lt 0 (longest Start v)) (is_dead (after Start v)) (lookup_none is_loud symbols v none_loud h) in
    let n : longest Start v ≡ 0 = (let a = q.0 in grind (arith, nat_tests)) in
    ap (longest Start) e ∙ longest_over Start v z n (dead_is (after Start v) q.1)

pub best_at : (bytes : List ℕ) (o : Option (Symbol × ℕ)) → o ≡ front_symbol bytes → Best bytes o
best_at bytes o e = let F : Option (Symbol × ℕ) → Type 0 = λ u. Best bytes u in subst F (sym e) (symbol_best bytes)
