-- Names of tokens that are not refused are short.
use Rattle.std.proofs.Common.{◌≡◌, ℕ, zero, suc, ◌≤◌, Bool, true, false, cond, nat_lt, List, [], ◌∷◌, length, Some, None, refl, subst, arith}
use Rattle.std.specs.List.{AllByRecursion as Each}
use Rattle.std.proofs.lemmas.Bool.Decides.{nat_tests}
use Rattle.bridge_io.specs.declared.reason.Reason.TheVariants.{TooLong}
use Rattle.prism_lex.specs.declared.token.TokenKind.{TokenKind}
use Rattle.prism_lex.specs.declared.token.TokenKind.TheVariants as K
use Rattle.prism_lex.specs.Tokens.{Lexeme, Tokens, TokenFaults, refusal, refusal_of}
use Rattle.prism_lex.specs.Laws.{AllAccepted}
use Rattle.prism_lex.proofs.Readers.{one_list, clean_is_faultless}
use Rattle.prism_tree.specs.Grammar.{but_last, unquoted}
use Rattle.short_names.specs.ShortNames.{IsShort}

-- the token is not refused
abbrev pub IsAccepted : Lexeme → Type 0
IsAccepted t = refusal_of t ≡ None

each_accepted : (ts : List Lexeme) → AllAccepted ts → Each IsAccepted ts
each_accepted [] a = tt
each_accepted (t ∷ ts) a = (a.0, each_accepted ts a.1)

pub faultless_accepted : (bytes : List ℕ) (ts : List Lexeme) → TokenFaults bytes [] → Tokens bytes ts → Each IsAccepted ts
faultless_accepted bytes ts f r =
    let c = (clean_is_faultless bytes).1 f in
    let F : List Lexeme → Type 0 = λ u. Each IsAccepted u in
    subst F (one_list bytes c.0 ts c.1 r) (each_accepted c.0 c.2)

pub within : (n m : ℕ) → cond (nat_lt n m) (Some TooLong) None ≡ None → m ≤ n
within n m h = go (nat_lt n m) refl h
  where
    go : (b : Bool) → nat_lt n m ≡ b → cond b (Some TooLong) None ≡ None → m ≤ n
    go true e h = absurd cc
    go false e h = grind (arith, nat_tests)

of_kind : (t : Lexeme) (k : TokenKind) → IsAccepted t → t.kind ≡ k → refusal k t.text ≡ None
of_kind t k h e = let F : TokenKind → Type 0 = λ u. refusal u t.text ≡ None in subst F e h

pub identifier_short : (t : Lexeme) → IsAccepted t → t.kind ≡ K.Ident → IsShort t.text
identifier_short t h e = within 255 (length t.text) (of_kind t K.Ident h e)

but_last_within : (n : ℕ) (v : List ℕ) → length v ≤ suc n → length (but_last v) ≤ n
but_last_within n [] h = omega arith
but_last_within n (b ∷ []) h = omega arith
but_last_within zero (b ∷ c ∷ v) h = absurd (omega (arith, h))
but_last_within (suc n) (b ∷ c ∷ v) h = let s = but_last_within n (c ∷ v) (omega (arith, h)) in omega (arith, s)

pub unquoted_within : (w : List ℕ) → length w ≤ 257 → IsShort (unquoted w)
unquoted_within [] h = omega arith
unquoted_within (b ∷ v) h = but_last_within 255 v (omega (arith, h))

pub title_short : (t : Lexeme) → IsAccepted t → t.kind ≡ K.Quoted → IsShort (unquoted t.text)
title_short t h e = unquoted_within t.text (within 257 (length t.text) (of_kind t K.Quoted h e))
