-- The text of pieces has exactly their tokens, behind a gap too.
use Rattle.std.proofs.Common.{◌≡◌, ℕ, ◌+◌, true, List, [], ◌∷◌, ◌++◌, length, drop, refl, sym, ap, subst, ◌∙◌, arith, append_assoc, append-nil, length-append}
use Rattle.std.specs.List.{list_all}
use Rattle.std.proofs.Math.Seq.{drop-append_seam}
use Rattle.prism_lex.specs.declared.token.TokenKind.{TokenKind}
use Rattle.prism_lex.specs.Gaps.{is_separator, IsGap}
use Rattle.prism_lex.specs.Tokens.{Lexeme, IsNext, Reads, Tokens, finished}
use Rattle.prism_print.proofs.Pieces.{Piece, printed, blank, text}
use Rattle.prism_print.proofs.Spelling.{Match}
use Rattle.prism_print.proofs.Stands.{Stands, Closes, gap_is, gap_longest, closes_both, separators_close}

-- Each piece is what it says: a blank separates, and a token stands in front of what follows it.
abbrev pub Spaced : List Piece → Type 0
Spaced [] = Unit {0}
Spaced (blank g ∷ ps) = (list_all is_separator g ≡ true) × Spaced ps
Spaced (printed k w ∷ ps) = Stands k w (text ps) × Spaced ps

abbrev lexeme : TokenKind → List ℕ → ℕ → Lexeme
lexeme k w n = record { kind = k; text = w; at = n }

next_is : (bytes before g w rest : List ℕ) (k : TokenKind) → bytes ≡ before ++ (g ++ (w ++ rest)) → Closes g → Stands k w rest → IsNext bytes (length before) (lexeme k w (length before + length g))
next_is bytes before g w rest k e h s = record {
  gap = g;
  rest = rest;
  parts = ap (drop (length before)) e ∙ drop-append_seam before (g ++ (w ++ rest));
  is_between = gap_longest g (w ++ rest) h s.solid;
  is_token = s.longest;
  kind = s.kind;
  begins = refl;
}

end_is : (before g w : List ℕ) → length before + length g + length w ≡ length (before ++ (g ++ w))
end_is before g w = let a = length-append before (g ++ w) in let b = length-append g w in omega arith

onward : (before g w rest : List ℕ) → before ++ (g ++ (w ++ rest)) ≡ (before ++ (g ++ w)) ++ rest
onward before g w rest = simp append_assoc

from_gap : (bytes before g : List ℕ) (ps : List Piece) → bytes ≡ before ++ (g ++ text ps) → Closes g → Spaced ps → (ts : List Lexeme) × Reads bytes (length before) ts finished × Match ps ts
from_gap bytes before g [] e h s =
    let d : drop (length before) bytes ≡ g = ap (drop (length before)) e ∙ drop-append_seam before (g ++ []) ∙ append-nil g in
    let F : List ℕ → Type 0 = λ u. IsGap u in
    ([], subst F (sym d) (gap_is g h), refl)
from_gap bytes before g (blank b ∷ ps) e h s =
    from_gap bytes before (g ++ b) ps (e ∙ ap (λ (u : List ℕ). before ++ u) (sym (append_assoc g b (text ps)))) (closes_both g b h (separators_close b s.0)) s.1
from_gap bytes before g (printed k w ∷ ps) e h s =
    let r = from_gap bytes (before ++ (g ++ w)) [] ps (e ∙ onward before g w (text ps)) ([], tt, refl) s.1 in
    let F : ℕ → Type 0 = λ n. Reads bytes n r.0 finished in
    let l = lexeme k w (length before + length g) in
    (l ∷ r.0, (next_is bytes before g w (text ps) k e h s.0, subst F (sym (end_is before g w)) r.1), (l, r.0, refl, refl, refl, r.2))

-- behind a gap
pub tokens_behind : (g : List ℕ) (ps : List Piece) → Closes g → Spaced ps → (ts : List Lexeme) × Tokens (g ++ text ps) ts × Match ps ts
tokens_behind g ps h s = from_gap (g ++ text ps) [] g ps refl h s
