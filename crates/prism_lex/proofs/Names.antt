-- The texts of names are ASCII.
use Rattle.std.proofs.Common.{arith, ◌≡◌, ◌≢◌, ℕ, zero, suc, ◌<◌, true, List, [], ◌∷◌, ◌++◌, refl, ap, subst, ◌∙◌}
use Rattle.std.specs.Char.{is_ascii}
use Rattle.std.specs.Cmp.Derive.{both_true}
use Rattle.std.specs.Str.{IsAscii}
use Rattle.prism_lex.specs.declared.token.TokenKind.{TokenKind}
use Rattle.prism_lex.specs.declared.token.TokenKind.TheVariants.{Word, Ident, Quoted, Number, Symbol, End}
use Rattle.prism_lex.specs.Tokens.{is_name, IsKind}
use Rattle.prism_lex.specs.Alike.{is_named}
use Rattle.prism_lex.specs.Kept.{is_ascii_text, IsNameOf}
use Rattle.prism_lex.proofs.NameTexts.{name_ascii}

byte_small : (b : ℕ) → b < 128 → is_ascii b ≡ true
byte_small b h = grind (arith, h)

pub bytes_ascii : (w : List ℕ) → IsAscii w → is_ascii_text w ≡ true
bytes_ascii [] h = refl
bytes_ascii (b ∷ w) h = both_true (byte_small b (h zero)) (bytes_ascii w (λ i. h (suc i)))

before_quote : (bs : List ℕ) → IsAscii bs → IsAscii (bs ++ 34 ∷ [])
before_quote [] h zero = omega arith
before_quote [] h (suc i) = omega arith
before_quote (b ∷ bs) h zero = h zero
before_quote (b ∷ bs) h (suc i) = before_quote bs (λ j. h (suc j)) i

quoted_ascii : (bs : List ℕ) → is_name bs ≡ true → IsAscii (34 ∷ (bs ++ 34 ∷ []))
quoted_ascii bs e zero = omega arith
quoted_ascii bs e (suc i) = before_quote bs (name_ascii bs e) i

pub ident_name : (k : TokenKind) (w : List ℕ) → k ≡ Ident → IsKind w k → IsNameOf k w w
ident_name k w e is =
    let F : TokenKind → Type 0 = λ j. IsKind w j in
    let i : F Ident = subst F e is in
    record { text = λ _. refl; ascii = bytes_ascii w (name_ascii w i.0) }

pub quoted_name : (k : TokenKind) (w : List ℕ) → k ≡ Quoted → IsKind w k → IsNameOf k w w
quoted_name k w e is =
    let F : TokenKind → Type 0 = λ j. IsKind w j in
    let i : F Quoted = subst F e is in
    record { text = λ _. refl; ascii = ap is_ascii_text i.1 ∙ bytes_ascii (34 ∷ (i.0 ++ 34 ∷ [])) (quoted_ascii i.0 i.2) }

not_named : (k : TokenKind) → k ≢ Ident → k ≢ Quoted → is_named k ≡ true → ⊥
not_named Ident h i e = h refl
not_named Quoted h i e = i refl
not_named (Word r) h i e = absurd cc
not_named (Number d) h i e = absurd cc
not_named (Symbol s) h i e = absurd cc
not_named End h i e = absurd cc

pub other_name : (k : TokenKind) (w : List ℕ) → k ≢ Ident → k ≢ Quoted → IsNameOf k w []
other_name k w h i = record { text = λ e. absurd (not_named k h i e); ascii = refl }
