-- What is kept goes on being seen as it was where the tables grow.
use Rattle.std.proofs.Common.{arith, ◌≡◌, ◌≢◌, ℕ, zero, suc, ◌≤◌, ◌<◌, Bool, true, false, List, [], ◌∷◌, ◌++◌, map, length, take, Option, Some, None, refl, sym, ap, ap₂, subst, ◌∙◌, append-nil, ◌+◌, ◌*◌}
use Rattle.std.specs.Prelude.{nat_lt, slice_get, if◌then◌else◌}
use Rattle.std.proofs.lemmas.List.{map-append, length-append, take-append-le}
use Rattle.frac_core.specs.declared.decimal.Decimal.{Decimal}
use Rattle.prism_lex.specs.declared.token.TokenKind.{TokenKind}
use Rattle.prism_lex.specs.declared.token.TokenKind.TheVariants as K
use Rattle.prism_lex.specs.declared.words.Reserved.{Reserved}
use Rattle.prism_lex.specs.declared.symbols.Symbol as S
use Rattle.prism_lex.specs.declared.kept.Kept.{Kept}
use Rattle.prism_lex.specs.declared.kept.Kept.TheVariants.{Word, Symbol, Ident, Quoted, Number}
use Rattle.prism_lex.specs.declared.kept.Found.{Found}
use Rattle.prism_lex.specs.declared.kept.Lexed.{Lexed}
use Rattle.prism_lex.specs.Tokens.{Lexeme}
use Rattle.prism_lex.specs.Alike.{is_named, Alike, AreAlike}
use Rattle.prism_lex.specs.Kept.{made, is_ascii_text, front_name, name_from, if_ascii, in_rows, number_in, named_at, number_at, lexeme_by, lexeme_at, lexemes, HasNoEnd, Keeps, spelled, IsOf, Grows, HoldsName, HoldsNumber, Holds}

-- ---- a table with more behind it

get_more : {X : Type 0} (xs ys : List X) (i : ℕ) (x : X) → slice_get xs i ≡ Some x → slice_get (xs ++ ys) i ≡ Some x
get_more [] ys i x e = absurd cc
get_more (y ∷ xs) ys zero x e = e
get_more (y ∷ xs) ys (suc i) x e = get_more xs ys i x e

not_less : (n m : ℕ) → nat_lt n m ≡ false → m ≤ n
not_less n m e = grind (arith, e)

less : (n m : ℕ) → nat_lt n m ≡ true → n < m
less n m e = grind (arith, e)

front_more : (names more w : List ℕ) → front_name names ≡ Some w → front_name (names ++ more) ≡ Some w
front_more [] more w e = absurd cc
front_more (low ∷ []) more w e = absurd cc
front_more (low ∷ high ∷ v) more w e = go (nat_lt (length v) n) (nat_lt (length (v ++ more)) n) refl refl e
  where
    n : ℕ
    n = low + 256 * high

    go : (b c : Bool) → nat_lt (length v) n ≡ b → nat_lt (length (v ++ more)) n ≡ c → (if b then None else Some (take n v)) ≡ Some w → (if c then None else Some (take n (v ++ more))) ≡ Some w
    go true c f g e = absurd cc
    go false true f g e = let l = length-append v more in let a = not_less (length v) n f in let b = less (length (v ++ more)) n g in absurd (omega arith)
    go false false f g e = ap Some (take-append-le n v more (not_less (length v) n f)) ∙ e

name_more : (names more : List ℕ) (place : ℕ) (w : List ℕ) → name_from names place ≡ Some w → name_from (names ++ more) place ≡ Some w
name_more names more zero w e = front_more names more w e
name_more [] more (suc i) w e = absurd cc
name_more (n ∷ names) more (suc i) w e = name_more names more i w e

-- ---- a token with tables that grow

named_more : (kind : TokenKind) (names more : List ℕ) (place at : ℕ) (o : Option (List ℕ)) → name_from names place ≡ o → (named_at kind (if_ascii o) at).kind ≢ K.End
    → named_at kind (if_ascii (name_from (names ++ more) place)) at ≡ named_at kind (if_ascii o) at
named_more kind names more place at None e h = absurd (h refl)
named_more kind names more place at (Some w) e h = ap (λ (o : Option (List ℕ)). named_at kind (if_ascii o) at) (name_more names more place w e)

number_more : (literals more : List Decimal) (place at : ℕ) (o : Option Decimal) → slice_get literals place ≡ o → (number_at o at).kind ≢ K.End
    → number_at (slice_get (literals ++ more) place) at ≡ number_at o at
number_more literals more place at None e h = absurd (h refl)
number_more literals more place at (Some d) e h = ap (λ (o : Option Decimal). number_at o at) (get_more literals more place d e)

lexeme_more : (names more : List ℕ) (literals others : List Decimal) (k : Kept) (at size : ℕ) → (lexeme_by names literals k at size).kind ≢ K.End
    → lexeme_by (names ++ more) (literals ++ others) k at size ≡ lexeme_by names literals k at size
lexeme_more names more literals others (Word r) at size h = refl
lexeme_more names more literals others (Symbol s) at size h = refl
lexeme_more names more literals others (Ident row) at size h = named_more K.Ident names more (in_rows row size) at (name_from names (in_rows row size)) refl h
lexeme_more names more literals others (Quoted row) at size h = named_more K.Quoted names more (in_rows row size) at (name_from names (in_rows row size)) refl h
lexeme_more names more literals others (Number row) at size h = number_more literals others (in_rows row size) at (number_in literals row size) refl h

all_more : (names more : List ℕ) (literals others : List Decimal) (found : List Found) → HasNoEnd (map (lexeme_at names literals) found)
    → map (lexeme_at (names ++ more) (literals ++ others)) found ≡ map (lexeme_at names literals) found
all_more names more literals others [] h = refl
all_more names more literals others (f ∷ fs) h =
    ap₂ (λ (l : Lexeme) (ls : List Lexeme). l ∷ ls) (lexeme_more names more literals others f.kind f.at f.size h.0) (all_more names more literals others fs h.1)

-- ---- one token more

alike_more : (ts us : List Lexeme) (t u : Lexeme) → AreAlike ts us → Alike t u → AreAlike (ts ++ t ∷ []) (us ++ u ∷ [])
alike_more [] [] t u h k = (k, tt)
alike_more [] (v ∷ us) t u h k = absurd h
alike_more (v ∷ ts) [] t u h k = absurd h
alike_more (v ∷ ts) (w ∷ us) t u h k = (h.0, alike_more ts us t u h.1 k)

full_more : (ts : List Lexeme) (t : Lexeme) → HasNoEnd ts → t.kind ≢ K.End → HasNoEnd (ts ++ t ∷ [])
full_more [] t h k = (k, tt)
full_more (u ∷ ts) t h k = (h.0, full_more ts t h.1 k)

spelled_is : (kind : TokenKind) (w : List ℕ) → is_named kind ≡ true → spelled kind w ≡ w
spelled_is K.Ident w e = refl
spelled_is K.Quoted w e = refl
spelled_is (K.Word r) w e = absurd cc
spelled_is (K.Number d) w e = absurd cc
spelled_is (K.Symbol s) w e = absurd cc
spelled_is K.End w e = absurd cc

alike_of : (kind : TokenKind) (name : List ℕ) (at : ℕ) (l : Lexeme) → IsOf kind name at l → Alike (made kind (spelled kind name) at) l
alike_of kind name at l is = record { kind = sym is.kind; at = sym is.at; text = λ e. spelled_is kind name e ∙ sym (is.text e) }

pub token_kept : (before after : Lexed) (kind : TokenKind) (name : List ℕ) (at n : ℕ) (k : Kept) (size : ℕ) (ls : List Lexeme) (l : Lexeme)
    → Holds before after kind name k size → n ≡ at → Keeps before ls → IsOf kind name at l
    → (whole : Lexed) → whole.names ≡ after.names → whole.literals ≡ after.literals → whole.found ≡ after.found ++ (record { kind = k; size = size; at = n }) ∷ [] → Keeps whole (ls ++ l ∷ [])
token_kept before after kind name at n k size ls l holds is keeps of whole names literals found =
    let f : Found = record { kind = k; size = size; at = n } in
    let g = holds.grows in
    let last : lexeme_at after.names after.literals f ≡ made kind (spelled kind name) at = ap (λ (m : ℕ). lexeme_by after.names after.literals k m size) is ∙ holds.is at in
    let old : map (lexeme_at after.names after.literals) before.found ≡ lexemes before =
    ap₂ (λ (ns : List ℕ) (ds : List Decimal). map (lexeme_at ns ds) before.found) g.names g.literals ∙ all_more before.names g.more_names before.literals g.more_literals before.found keeps.full in
    let table : lexemes whole ≡ map (lexeme_at after.names after.literals) whole.found = ap₂ (λ (ns : List ℕ) (ds : List Decimal). map (lexeme_at ns ds) whole.found) names literals in
    let same : lexemes whole ≡ lexemes before ++ made kind (spelled kind name) at ∷ [] =
    table ∙ ap (map (lexeme_at after.names after.literals)) (found ∙ ap (λ (fs : List Found). fs ++ f ∷ []) holds.found)
    ∙ map-append (lexeme_at after.names after.literals) before.found (f ∷ []) ∙ ap₂ (λ (xs : List Lexeme) (x : Lexeme). xs ++ x ∷ []) old last in
    let F : List Lexeme → Type 0 = λ xs. AreAlike xs (ls ++ l ∷ []) in
    record {
      alike = subst F (sym same) (alike_more (lexemes before) ls _ l keeps.alike (alike_of kind name at l of));
      full = subst HasNoEnd (sym same) (full_more (lexemes before) (made kind (spelled kind name) at) keeps.full holds.no_end);
    }

-- ---- what a token is kept as

-- The tables that stay as they are.
pub unchanged : (names : List ℕ) (literals : List Decimal) → Grows names literals names literals
unchanged names literals = record { more_names = []; more_literals = []; names = sym (append-nil names); literals = sym (append-nil literals) }

word_no_end : (r : Reserved) → K.Word r ≡ K.End → ⊥
word_no_end r e = absurd cc

symbol_no_end : (s : S.Symbol) → K.Symbol s ≡ K.End → ⊥
symbol_no_end s e = absurd cc

number_no_end : (d : Decimal) → K.Number d ≡ K.End → ⊥
number_no_end d e = absurd cc

ident_no_end : K.Ident ≡ K.End → ⊥
ident_no_end e = absurd cc

quoted_no_end : K.Quoted ≡ K.End → ⊥
quoted_no_end e = absurd cc

pub holds_word : (before : Lexed) (kind : TokenKind) (name : List ℕ) (r : Reserved) → kind ≡ K.Word r → Holds before before kind name (Word r) 0
holds_word before kind name r e =
    let F : TokenKind → Type 0 = λ k. Holds before before k name (Word r) 0 in
    subst F (sym e) (record { no_end = word_no_end r; found = refl; grows = unchanged before.names before.literals; is = λ at. refl })

pub holds_symbol : (before : Lexed) (kind : TokenKind) (name : List ℕ) (s : S.Symbol) → kind ≡ K.Symbol s → Holds before before kind name (Symbol s) 0
holds_symbol before kind name s e =
    let F : TokenKind → Type 0 = λ k. Holds before before k name (Symbol s) 0 in
    subst F (sym e) (record { no_end = symbol_no_end s; found = refl; grows = unchanged before.names before.literals; is = λ at. refl })

ascii_is : (w : List ℕ) → is_ascii_text w ≡ true → if_ascii (Some w) ≡ Some w
ascii_is w e = ap (λ (b : Bool). if b then Some w else None) e

pub holds_ident : (before after : Lexed) (kind : TokenKind) (name : List ℕ) (row size : ℕ) → kind ≡ K.Ident → is_ascii_text name ≡ true
    → HoldsName before.names name after.names (in_rows row size) → after.literals ≡ before.literals → after.found ≡ before.found → Holds before after kind name (Ident row) size
holds_ident before after kind name row size e ascii h literals found =
    let F : TokenKind → Type 0 = λ k. Holds before after k name (Ident row) size in
    subst F (sym e) (record {
      no_end = ident_no_end;
      found = found;
      grows = record { more_names = h.more; more_literals = []; names = h.grows; literals = literals ∙ sym (append-nil before.literals) };
      is = λ at. ap (λ (o : Option (List ℕ)). named_at K.Ident (if_ascii o) at) h.at ∙ ap (λ (o : Option (List ℕ)). named_at K.Ident o at) (ascii_is name ascii);
    })

pub holds_quoted : (before after : Lexed) (kind : TokenKind) (name : List ℕ) (row size : ℕ) → kind ≡ K.Quoted → is_ascii_text name ≡ true
    → HoldsName before.names name after.names (in_rows row size) → after.literals ≡ before.literals → after.found ≡ before.found → Holds before after kind name (Quoted row) size
holds_quoted before after kind name row size e ascii h literals found =
    let F : TokenKind → Type 0 = λ k. Holds before after k name (Quoted row) size in
    subst F (sym e) (record {
      no_end = quoted_no_end;
      found = found;
      grows = record { more_names = h.more; more_literals = []; names = h.grows; literals = literals ∙ sym (append-nil before.literals) };
      is = λ at. ap (λ (o : Option (List ℕ)). named_at K.Quoted (if_ascii o) at) h.at ∙ ap (λ (o : Option (List ℕ)). named_at K.Quoted o at) (ascii_is name ascii);
    })

pub holds_number : (before after : Lexed) (kind : TokenKind) (name : List ℕ) (value : Decimal) (row size : ℕ) → kind ≡ K.Number value
    → HoldsNumber before.literals value after.literals (in_rows row size) → after.names ≡ before.names → after.found ≡ before.found → Holds before after kind name (Number row) size
holds_number before after kind name value row size e h names found =
    let F : TokenKind → Type 0 = λ k. Holds before after k name (Number row) size in
    subst F (sym e) (record {
      no_end = number_no_end value;
      found = found;
      grows = record { more_names = []; more_literals = h.more; names = names ∙ sym (append-nil before.names); literals = h.grows };
      is = λ at. ap (λ (o : Option Decimal). number_at o at) h.at;
    })
