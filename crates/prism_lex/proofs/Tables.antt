-- Look-ups in tables of texts.
use Rattle.std.proofs.Common.{◌≡◌, ℕ, ◌+◌, ◌<◌, Bool, true, false, cond, List, [], ◌∷◌, length, map, drop, get_or, Option, Some, None, refl, sym, ap, ◌≢◌, ◌∙◌, arith, eq-eqb}
use Rattle.std.specs.Prelude.{◌==◌, ◌||◌, is_some}
use Rattle.std.specs.List.{list_any}
use Rattle.std.specs.Str.{bytes_eq}
use Rattle.std.proofs.lemmas.List.{at_drop_more}
use Rattle.std.proofs.lemmas.Slice.Eq.{bytes_eq-Decides}
use Rattle.std.proofs.lemmas.Bool.Decides.{nat_tests}
use Rattle.std.proofs.lemmas.Bool.{or_left, or_right}
use Rattle.prism_lex.specs.declared.words.Reserved.{Reserved}
use Rattle.prism_lex.specs.Words.{lookup, words}

-- the entries whose texts have a length
abbrev pub of_length : {A : Type 0} → ℕ → List (List ℕ × A) → List (List ℕ × A)
of_length n [] = []
of_length n (e ∷ es) = cond (length e.0 == n) (e ∷ of_length n es) (of_length n es)

same_length : (u v : List ℕ) → bytes_eq u v ≡ true → length u ≡ length v
same_length u v h = ap length ((bytes_eq-Decides u v).0 h)

keeps : {A : Type 0} (text : List ℕ) (e : List ℕ × A) (rest all : Option A) (es : List (List ℕ × A)) → rest ≡ lookup text es → (t : Bool) → bytes_eq e.0 text ≡ t → (s : Bool) → (length e.0 == length text) ≡ s → cond t (Some e.1) rest ≡ lookup text (cond s (e ∷ es) es)
keeps text e rest all es r true f true g = rw f refl
keeps text e rest all es r true f false g = absurd (let a = eq-eqb (length e.0) (length text) (same_length e.0 text f) in cc)
keeps text e rest all es r false f true g = rw f r
keeps text e rest all es r false f false g = r

-- Only the entries of the text's length matter.
pub lookup-of_length : {A : Type 0} (text : List ℕ) (table : List (List ℕ × A)) → lookup text table ≡ lookup text (of_length (length text) table)
lookup-of_length text [] = refl
lookup-of_length text (e ∷ es) = keeps text e (lookup text es) None (of_length (length text) es) (lookup-of_length text es) (bytes_eq e.0 text) refl (length e.0 == length text) refl

pub word_of_length : (text : List ℕ) (r : Option Reserved) (n : ℕ) → length text ≡ n → r ≡ lookup text (of_length n words) → r ≡ lookup text words
word_of_length text r n e h = h ∙ ap (λ (m : ℕ). lookup text (of_length m words)) (sym e) ∙ sym (lookup-of_length text words)

other_length : (m n : ℕ) → n ≢ m → (m == n) ≡ false
other_length m n h = grind (arith, nat_tests)

pub word_of_no_length : (text : List ℕ) → length text ≢ 1 → length text ≢ 2 → length text ≢ 3 → length text ≢ 4 → length text ≢ 5 → length text ≢ 6 → length text ≢ 7 → length text ≢ 9 → length text ≢ 10 → length text ≢ 11 → length text ≢ 12 → length text ≢ 13 → length text ≢ 14 → length text ≢ 16 → None ≡ lookup text words
unfolding words
word_of_no_length text h1 h2 h3 h4 h5 h6 h7 h9 h10 h11 h12 h13 h14 h16 =
    let n = length text in
    let e : of_length n words ≡ [] = simp (other_length 1 (length text) h1, other_length 2 (length text) h2, other_length 3 (length text) h3, other_length 4 (length text) h4, other_length 5 (length text) h5, other_length 6 (length text) h6, other_length 7 (length text) h7, other_length 9 (length text) h9, other_length 10 (length text) h10, other_length 11 (length text) h11, other_length 12 (length text) h12, other_length 13 (length text) h13, other_length 14 (length text) h14, other_length 16 (length text) h16) in
    sym (lookup-of_length text words ∙ ap (lookup text) e)

-- ---- tests of all texts of a table

any_step : {A : Type 0} (p : List ℕ → Bool) (u text : List ℕ) (j : A) (rest : Option A) (others : Bool) → p text ≡ true → (is_some rest ≡ true → others ≡ true) → (t : Bool) → bytes_eq u text ≡ t → is_some (cond t (Some j) rest) ≡ true → (p u || others) ≡ true
any_step p u text j rest others h r true f g = let e : u ≡ text = (bytes_eq-Decides u text).0 f in or_left (p u) others (ap p e ∙ h)
any_step p u text j rest others h r false f g = or_right (p u) others (r g)

-- Where a text of a table passes a test, some text there passes it.
pub lookup_any : {A : Type 0} (p : List ℕ → Bool) (table : List (List ℕ × A)) (text : List ℕ) → p text ≡ true → is_some (lookup text table) ≡ true → list_any (λ e. p e.0) table ≡ true
lookup_any p [] text h g = absurd cc
lookup_any p (e ∷ es) text h g = any_step p e.0 text e.1 (lookup text es) (list_any (λ f. p f.0) es) h (lookup_any p es text h) (bytes_eq e.0 text) refl g

-- No text of a table passes a test that none there passes.
pub lookup_none : {A : Type 0} (p : List ℕ → Bool) (table : List (List ℕ × A)) (text : List ℕ) → list_any (λ e. p e.0) table ≡ false → is_some (lookup text table) ≡ true → p text ≡ false
lookup_none p table text none h = go (p text) refl
  where
    go : (t : Bool) → p text ≡ t → p text ≡ false
    go true e = let a = lookup_any p table text e h in absurd cc
    go false e = e

-- what a text is in a table, told of the entries that are left
pub entry_step : {A B : Type 0} (view : B → List ℕ × A) (text : List ℕ) (table : List B) (i : ℕ) (e : B) (same : Bool) → i < length table → e ≡ get_or table i e → bytes_eq (view e).0 text ≡ same →
    lookup text (map view (drop i table)) ≡ lookup text (map view table) → lookup text (map view table) ≡ cond same (Some (view e).1) (lookup text (map view (drop (i + 1) table)))
entry_step view text table i e same h is test so_far =
    sym so_far
    ∙ at_drop_more (λ es. lookup text (map view es)) table i e h
    ∙ ap (λ z. lookup text (map view (z ∷ drop (i + 1) table))) (sym is)
    ∙ ap (λ b. cond b (Some (view e).1) (lookup text (map view (drop (i + 1) table)))) test
