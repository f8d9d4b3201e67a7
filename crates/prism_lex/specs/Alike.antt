-- Tokens that are alike: of the same kinds, at the same places, and the names among them of the same texts.
use Rattle.std.specs.Prelude.{◌≡◌, ℕ, Bool, true, false, List, [], ◌∷◌}
use Rattle.prism_lex.specs.declared.token.TokenKind.{TokenKind}
use Rattle.prism_lex.specs.declared.token.TokenKind.TheVariants.{Word, Ident, Quoted, Number, Symbol, End}
use Rattle.prism_lex.specs.Tokens.{Lexeme}

-- identifiers and quoted names
abbrev pub is_named : TokenKind → Bool
is_named Ident = true
is_named Quoted = true
is_named (Word _) = false
is_named (Number _) = false
is_named (Symbol _) = false
is_named End = false

pub record Alike (a b : Lexeme) : Type 0 where
  pub kind : a.kind ≡ b.kind
  pub at : a.at ≡ b.at
  pub text : is_named a.kind ≡ true → a.text ≡ b.text

-- the same of lists, one by one
abbrev pub AreAlike : List Lexeme → List Lexeme → Type 0
AreAlike [] [] = Unit {0}
AreAlike [] (m ∷ ms) = ⊥
AreAlike (l ∷ ls) [] = ⊥
AreAlike (l ∷ ls) (m ∷ ms) = Alike l m × AreAlike ls ms
