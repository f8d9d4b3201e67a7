-- What stands between tokens (PRISM manual, "The PRISM language": white space and comments).
use Rattle.std.specs.Prelude.{◌≡◌, ◌↔◌, ℕ, suc, Bool, true, false, not, ◌||◌, ◌==◌, List, [], ◌∷◌, ◌++◌, Option, Some, None, if◌then◌else◌, nat_lt}
use Rattle.std.specs.List.{list_all}
use Rattle.prism_lex.specs.declared.gap.Gap.{Gap}
use Rattle.prism_lex.specs.declared.gap.Gap.TheVariants.{Between, FirstSlash, Comment, Other}

abbrev pub is_separator : ℕ → Bool
is_separator b = b == 32 || (b == 9 || (b == 10 || b == 13))

-- Between tokens stand separators and comments. A comment begins with //, ends at the next LF, and holds any bytes.
abbrev pub gap_step : Gap → ℕ → Gap
gap_step Between b = if is_separator b then Between else if b == 47 then FirstSlash else Other
gap_step FirstSlash b = if b == 47 then Comment else Other
gap_step Comment b = if b == 10 then Between else Comment
gap_step Other b = Other

-- where a gap may end: the end of the text may cut a comment off
abbrev pub may_end : Gap → Bool
may_end Between = true
may_end Comment = true
may_end FirstSlash = false
may_end Other = false

abbrev pub gap_after : Gap → List ℕ → Gap
gap_after s [] = s
gap_after s (b ∷ bs) = gap_after (gap_step s b) bs

-- The bytes are separators and comments.
abbrev pub IsGap : List ℕ → Type 0
IsGap bytes = may_end (gap_after Between bytes) ≡ true

-- the length of the longest gap at the front that goes on from a state
abbrev pub gap_len : Gap → List ℕ → ℕ
gap_len s [] = 0
gap_len s (b ∷ bs) =
    if nat_lt 0 (gap_len (gap_step s b) bs) then suc (gap_len (gap_step s b) bs) else if may_end (gap_step s b) then 1 else 0

-- the pieces of a gap: a separator, or a comment with the LF behind it
pub data Piece : Type 0 where
  separator : ℕ → Piece
  comment : List ℕ → Piece

abbrev pub has_no_lf : List ℕ → Bool
has_no_lf text = list_all (λ b. not (b == 10)) text

abbrev pub IsPiece : Piece → Type 0
IsPiece (separator b) = is_separator b ≡ true
IsPiece (comment text) = has_no_lf text ≡ true

abbrev pub AllPieces : List Piece → Type 0
AllPieces [] = Unit {0}
AllPieces (p ∷ ps) = IsPiece p × AllPieces ps

abbrev pub pieces_text : List Piece → List ℕ
pieces_text [] = []
pieces_text (separator b ∷ ps) = b ∷ pieces_text ps
pieces_text (comment text ∷ ps) = 47 ∷ 47 ∷ (text ++ 10 ∷ pieces_text ps)

-- a comment that the end of the text cuts off
abbrev pub cut_text : Option (List ℕ) → List ℕ
cut_text None = []
cut_text (Some text) = 47 ∷ 47 ∷ text

abbrev pub IsCut : Option (List ℕ) → Type 0
IsCut None = Unit {0}
IsCut (Some text) = has_no_lf text ≡ true

-- The bytes are pieces, and a comment that is cut off or none.
abbrev pub HasPieces : List ℕ → Type 0
HasPieces bytes =
    (ps : List Piece) × (last : Option (List ℕ)) × AllPieces ps × IsCut last × (bytes ≡ pieces_text ps ++ cut_text last)

-- A gap is separators and comments.
abbrev pub GapIsPieces : Type 0
GapIsPieces = (bytes : List ℕ) → IsGap bytes ↔ HasPieces bytes
