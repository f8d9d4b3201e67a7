-- Where a token is the longest at its place, and no gap before it is longer.
use Rattle.std.proofs.Common.{◌≡◌, ℕ, suc, ◌≤◌, ◌<◌, Bool, true, false, cond, List, [], ◌∷◌, ◌++◌, length, Option, Some, None, refl, sym, ap, subst, ◌∙◌, arith, nat_lt, append_assoc, length-append}
use Rattle.std.specs.Prelude.{◌≢◌, ◌||◌, ◌&&◌, ◌==◌, not, codes}
use Rattle.std.specs.List.{list_all}
use Rattle.std.proofs.lemmas.Bool.Decides.{nat_tests}
use Rattle.std.proofs.Math.Seq.{take-append_seam}
use Rattle.std.proofs.Common.{append-nil}
use Rattle.std.proofs.lemmas.Bool.{and_parts}
use Rattle.prism_lex.specs.declared.automaton.State.{State}
use Rattle.prism_lex.specs.declared.automaton.State.TheVariants.{Start, Letters, Whole, Point, Part, Power, Closed, Dead}
use Rattle.prism_lex.specs.declared.token.TokenKind.{TokenKind}
use Rattle.prism_lex.specs.declared.token.TokenKind.TheVariants as K
use Rattle.prism_lex.specs.declared.symbols.Symbol.{Symbol}
use Rattle.prism_lex.specs.declared.symbols.Symbol.TheVariants as S
use Rattle.prism_lex.specs.Words.{lookup, symbols}
use Rattle.prism_lex.specs.Automaton.{is_letter, is_digit, step, accepts, after, longest}
use Rattle.prism_lex.specs.Gaps.{is_separator, IsGap}
use Rattle.prism_lex.specs.Gaps as gaps
use Rattle.prism_lex.specs.Symbols.{front_symbol}
use Rattle.prism_lex.specs.Tokens.{IsKind, IsToken, IsLongest}
use Rattle.prism_lex.proofs.GapLemmas.{gap_pieces}
use Rattle.prism_lex.proofs.Longest.{longest_dead}
use Rattle.prism_lex.proofs.Shapes.{dead}
use Rattle.prism_lex.proofs.FrontLemmas.{begins_scanned, begins_symbol}
use Rattle.prism_lex.proofs.LongestSymbol.{IsBest, best_at, symbol_alone}
use Rattle.prism_lex.proofs.FrontLemmas.{some_is}

-- ---- what may follow

-- a byte with which no name or number goes on
abbrev pub is_stop : ℕ → Bool
is_stop c = not (is_letter c || (is_digit c || c == 46))

-- no name or number goes on into these bytes
pub data Calm (bs : List ℕ) : Type 0 where
  at_end : bs ≡ [] → Calm bs
  at_byte : (c : ℕ) (r : List ℕ) → bs ≡ c ∷ r → is_stop c ≡ true → Calm bs
  at_dots : (r : List ℕ) → bs ≡ 46 ∷ 46 ∷ r → Calm bs

-- a byte with which no symbol or comment goes on
abbrev pub is_plain : ℕ → Bool
is_plain c = not (c == 61 || (c == 62 || c == 47))

abbrev pub Plain : List ℕ → Type 0
Plain [] = Unit {0}
Plain (c ∷ r) = is_plain c ≡ true

-- no gap goes on into these bytes, and there are some
abbrev begins_slash : List ℕ → Bool
begins_slash [] = false
begins_slash (c ∷ r) = c == 47

abbrev pub is_solid : List ℕ → Bool
is_solid [] = false
is_solid (c ∷ r) = not (is_separator c || (c == 47 && begins_slash r))

-- The text is a token of the kind and the longest at its place, and what stands before it ends here.
pub record Stands (k : TokenKind) (w rest : List ℕ) : Type 0 where
  pub kind : IsKind w k
  pub longest : IsLongest IsToken w rest
  pub solid : is_solid (w ++ rest) ≡ true

-- ---- gaps

none_of : (a b : Bool) → not (a || b) ≡ true → (a ≡ false) × (b ≡ false)
none_of true b h = absurd cc
none_of false true h = absurd cc
none_of false false h = (refl, refl)

-- a gap that no comment at its end is cut off from: separators, and comments with their line feeds
abbrev pub Closes : List ℕ → Type 0
Closes g = (ps : List gaps.Piece) × gaps.AllPieces ps × (g ≡ gaps.pieces_text ps)

pieces_both : (ps qs : List gaps.Piece) → gaps.AllPieces ps → gaps.AllPieces qs → gaps.AllPieces (ps ++ qs)
pieces_both [] qs h k = k
pieces_both (p ∷ ps) qs h k = (h.0, pieces_both ps qs h.1 k)

text_both : (ps qs : List gaps.Piece) → gaps.pieces_text (ps ++ qs) ≡ gaps.pieces_text ps ++ gaps.pieces_text qs
text_both [] qs = refl
text_both (gaps.separator b ∷ ps) qs = ap (λ (u : List ℕ). b ∷ u) (text_both ps qs)
text_both (gaps.comment t ∷ ps) qs =
    ap (λ (u : List ℕ). 47 ∷ 47 ∷ (t ++ 10 ∷ u)) (text_both ps qs)
    ∙ ap (λ (u : List ℕ). 47 ∷ 47 ∷ u) (sym (append_assoc t (10 ∷ gaps.pieces_text ps) (gaps.pieces_text qs)))

pub closes_both : (g h : List ℕ) → Closes g → Closes h → Closes (g ++ h)
closes_both g h e f =
    (e.0 ++ f.0, pieces_both e.0 f.0 e.1 f.1, ap (λ (u : List ℕ). u ++ h) e.2 ∙ ap (λ (u : List ℕ). gaps.pieces_text e.0 ++ u) f.2 ∙ sym (text_both e.0 f.0))

pub separators_close : (g : List ℕ) → list_all is_separator g ≡ true → Closes g
separators_close [] h = ([], tt, refl)
separators_close (b ∷ g) h =
    let p = and_parts (is_separator b) (list_all is_separator g) h in
    let r = separators_close g p.1 in
    (gaps.separator b ∷ r.0, (p.0, r.1), ap (λ (u : List ℕ). b ∷ u) r.2)

pub comment_closes : (t : List ℕ) → gaps.has_no_lf t ≡ true → Closes (47 ∷ 47 ∷ (t ++ 10 ∷ []))
comment_closes t h = (gaps.comment t ∷ [], (h, tt), refl)

pub gap_is : (g : List ℕ) → Closes g → IsGap g
gap_is g h = (gap_pieces g).1 (h.0, None, h.1, tt, h.2 ∙ sym (append-nil (gaps.pieces_text h.0)))

-- a byte of a separator, or of a comment
solid_byte : (b : ℕ) (bs : List ℕ) → is_solid (b ∷ bs) ≡ true → is_separator b ≡ false
solid_byte b bs h = (none_of (is_separator b) (b == 47 && begins_slash bs) h).0

no_comment : {A : Type 0} (t bs : List ℕ) → bs ≡ 47 ∷ 47 ∷ t → is_solid bs ≡ true → A
no_comment t bs e h = let F : List ℕ → Type 0 = λ u. is_solid u ≡ true in let k = subst F e h in absurd cc

slash_separates : {A : Type 0} (b : ℕ) → b ≡ 47 → is_separator b ≡ true → A
slash_separates b e h = let F : ℕ → Type 0 = λ u. is_separator u ≡ true in let k = subst F e h in absurd cc

-- ---- lines
line_of : (b : ℕ) (t : List ℕ) → gaps.has_no_lf (b ∷ t) ≡ true → (b ≢ 10) × (gaps.has_no_lf t ≡ true)
line_of b t h = let p = and_parts (not (b == 10)) (gaps.has_no_lf t) h in ((λ e. let F : ℕ → Type 0 = λ u. not (u == 10) ≡ true in let k = subst F e p.0 in absurd cc), p.1)

-- bytes without a line feed end before it
ends_before : (t u a z : List ℕ) → gaps.has_no_lf t ≡ true → u ++ 10 ∷ a ≡ t ++ z → length t ≤ length u
ends_before [] u a z h e = omega arith
ends_before (b ∷ t) [] a z h e = let k : b ≡ 10 = cc in absurd ((line_of b t h).0 k)
ends_before (b ∷ t) (c ∷ u) a z h e = let k : u ++ 10 ∷ a ≡ t ++ z = cc in let r = ends_before t u a z (line_of b t h).1 k in omega arith

-- the first line feed is at one place
same_rest : (u t a b : List ℕ) → gaps.has_no_lf u ≡ true → gaps.has_no_lf t ≡ true → u ++ 10 ∷ a ≡ t ++ 10 ∷ b → (length u ≡ length t) × (a ≡ b)
same_rest [] [] a b h k e = (refl, (let i : a ≡ b = cc in i))
same_rest [] (c ∷ t) a b h k e = let i : c ≡ 10 = cc in absurd ((line_of c t k).0 i)
same_rest (c ∷ u) [] a b h k e = let i : c ≡ 10 = cc in absurd ((line_of c u h).0 i)
same_rest (c ∷ u) (d ∷ t) a b h k e =
    let i : u ++ 10 ∷ a ≡ t ++ 10 ∷ b = cc in let r = same_rest u t a b (line_of c u h).1 (line_of d t k).1 i in (ap suc r.0, r.1)

-- No gap is longer than such a one before solid bytes.
short : (ps : List gaps.Piece) (bs z : List ℕ) (qs : List gaps.Piece) (last : Option (List ℕ)) → gaps.AllPieces ps → is_solid bs ≡ true → gaps.AllPieces qs → gaps.IsCut last
    → gaps.pieces_text ps ++ bs ≡ (gaps.pieces_text qs ++ gaps.cut_text last) ++ z → length (gaps.pieces_text qs ++ gaps.cut_text last) ≤ length (gaps.pieces_text ps)
short ps bs z [] None h s k l e = omega arith
short [] bs z [] (Some t) h s k l e = no_comment (t ++ z) bs e s
short (gaps.separator b ∷ ps) bs z [] (Some t) h s k l e = slash_separates b (let i : b ≡ 47 = cc in i) h.0
short (gaps.comment u ∷ ps) bs z [] (Some t) h s k l e =
    let i : (u ++ 10 ∷ gaps.pieces_text ps) ++ bs ≡ t ++ z = cc in
    let r = ends_before t u (gaps.pieces_text ps ++ bs) z l (sym (append_assoc u (10 ∷ gaps.pieces_text ps) bs) ∙ i) in
    let n = length-append u (10 ∷ gaps.pieces_text ps) in
    omega arith
short [] bs z (gaps.separator c ∷ qs) last h s k l e =
    let F : List ℕ → Type 0 = λ u. is_solid u ≡ true in
    let i = solid_byte c ((gaps.pieces_text qs ++ gaps.cut_text last) ++ z) (subst F e s) in
    let j = k.0 in
    absurd cc
short (gaps.separator b ∷ ps) bs z (gaps.separator c ∷ qs) last h s k l e =
    let i : gaps.pieces_text ps ++ bs ≡ (gaps.pieces_text qs ++ gaps.cut_text last) ++ z = cc in
    let r = short ps bs z qs last h.1 s k.1 l i in
    omega arith
short (gaps.comment u ∷ ps) bs z (gaps.separator c ∷ qs) last h s k l e = slash_separates c (let i : c ≡ 47 = cc in i) k.0
short [] bs z (gaps.comment t ∷ qs) last h s k l e = no_comment (((t ++ 10 ∷ gaps.pieces_text qs) ++ gaps.cut_text last) ++ z) bs e s
short (gaps.separator b ∷ ps) bs z (gaps.comment t ∷ qs) last h s k l e = slash_separates b (let i : b ≡ 47 = cc in i) h.0
short (gaps.comment u ∷ ps) bs z (gaps.comment t ∷ qs) last h s k l e =
    let i : (u ++ 10 ∷ gaps.pieces_text ps) ++ bs ≡ ((t ++ 10 ∷ gaps.pieces_text qs) ++ gaps.cut_text last) ++ z = cc in
    let rest : ((t ++ 10 ∷ gaps.pieces_text qs) ++ gaps.cut_text last) ++ z ≡ t ++ 10 ∷ ((gaps.pieces_text qs ++ gaps.cut_text last) ++ z) =
    ap (λ (v : List ℕ). v ++ z) (append_assoc t (10 ∷ gaps.pieces_text qs) (gaps.cut_text last)) ∙ append_assoc t (10 ∷ (gaps.pieces_text qs ++ gaps.cut_text last)) z in
    let r = same_rest u t (gaps.pieces_text ps ++ bs) ((gaps.pieces_text qs ++ gaps.cut_text last) ++ z) h.0 k.0 (sym (append_assoc u (10 ∷ gaps.pieces_text ps) bs) ∙ i ∙ rest) in
    let more = short ps bs z qs last h.1 s k.1 l r.1 in
    let same = r.0 in
    let a = length-append u (10 ∷ gaps.pieces_text ps) in
    let b = ap length (append_assoc t (10 ∷ gaps.pieces_text qs) (gaps.cut_text last)) ∙ length-append t (10 ∷ (gaps.pieces_text qs ++ gaps.cut_text last)) in
    omega arith

pub gap_longest : (g bs : List ℕ) → Closes g → is_solid bs ≡ true → IsLongest IsGap g bs
gap_longest g bs h s = record {
  is = gap_is g h;
  longest = λ v z e i.
      let p = (gap_pieces v).0 i in
      let r = short h.0 bs z p.0 p.1 h.1 s p.2 p.3 (ap (λ (u : List ℕ). u ++ bs) (sym h.2) ∙ e ∙ ap (λ (u : List ℕ). u ++ z) p.4) in
      let a = ap length p.4 in
      let b = ap length h.2 in
      omega arith;
}

-- ---- names, numbers and words

pub last_one : (n : ℕ) (a : Bool) → n ≡ 0 → a ≡ true → cond (nat_lt 0 n) (suc n) (cond a 1 0) ≡ 1
last_one n a e f = rw (e, f) refl

pub one_more : (n k : ℕ) (a : Bool) → n ≡ suc k → cond (nat_lt 0 n) (suc n) (cond a 1 0) ≡ suc (suc k)
one_more n k a e = grind (arith, nat_tests)

-- a text that is accepted, behind which the automaton goes no further, is the longest
longest_append : (s : State) (b : ℕ) (w rest : List ℕ) → accepts (after s (b ∷ w)) ≡ true → longest (after s (b ∷ w)) rest ≡ 0 → longest s ((b ∷ w) ++ rest) ≡ length (b ∷ w)
longest_append s b [] rest a e = last_one (longest (step s b) rest) (accepts (step s b)) e a
longest_append s b (c ∷ w) rest a e = one_more (longest (step s b) ((c ∷ w) ++ rest)) (length w) (accepts (step s b)) (longest_append (step s b) c w rest a e)

none_more : (n : ℕ) (a : Bool) → n ≡ 0 → a ≡ false → cond (nat_lt 0 n) (suc n) (cond a 1 0) ≡ 0
none_more n a e f = rw (e, f) refl

stopped : (s : State) (c : ℕ) (r : List ℕ) → step s c ≡ Dead → longest s (c ∷ r) ≡ 0
stopped s c r e = none_more (longest (step s c) r) (accepts (step s c)) (ap (λ (u : State). longest u r) e ∙ longest_dead r) (ap accepts e)

-- the byte parts of a stop
record Stopping (c : ℕ) : Type 0 where
  letter : is_letter c ≡ false
  digit : is_digit c ≡ false
  point : (c == 46) ≡ false
  mark : (c == 101 || c == 69) ≡ false

stopping : (c : ℕ) → is_stop c ≡ true → Stopping c
stopping c h = record { letter = p.0; digit = p.1; point = p.2; mark = grind (arith, nat_tests) }
  where
    three : (x y z : Bool) → not (x || (y || z)) ≡ true → (x ≡ false) × (y ≡ false) × (z ≡ false)
    three false false false h = (refl, refl, refl)
    three true y z h = absurd cc
    three false true z h = absurd cc
    three false false true h = absurd cc

    p : (is_letter c ≡ false) × (is_digit c ≡ false) × ((c == 46) ≡ false)
    p = three (is_letter c) (is_digit c) (c == 46) h

stop_step : (s : State) (c : ℕ) → accepts s ≡ true → Stopping c → step s c ≡ Dead
stop_step Letters c a h = rw (h.letter, h.digit) refl
stop_step Whole c a h = rw (h.digit, h.point, h.mark) refl
stop_step Part c a h = rw (h.digit, h.mark) refl
stop_step Power c a h = rw h.digit refl
stop_step Closed c a h = refl
stop_step s c a h = absurd cc

dots_stop : (s : State) (r : List ℕ) → accepts s ≡ true → longest s (46 ∷ 46 ∷ r) ≡ 0
dots_stop Letters r a = stopped Letters 46 (46 ∷ r) refl
dots_stop Whole r a = none_more (longest Point (46 ∷ r)) false (stopped Point 46 r refl) refl
dots_stop Part r a = stopped Part 46 (46 ∷ r) refl
dots_stop Power r a = stopped Power 46 (46 ∷ r) refl
dots_stop Closed r a = stopped Closed 46 (46 ∷ r) refl
dots_stop s r a = absurd cc

calm_stop : (s : State) (bs : List ℕ) → accepts s ≡ true → Calm bs → longest s bs ≡ 0
calm_stop s bs a (at_end e) = ap (longest s) e
calm_stop s bs a (at_byte c r e h) = ap (longest s) e ∙ stopped s c r (stop_step s c a (stopping c h))
calm_stop s bs a (at_dots r e) = ap (longest s) e ∙ dots_stop s r a

-- what the automaton accepts begins no gap, nor goes on a symbol
first_step : (b : ℕ) (w : List ℕ) → accepts (after Start (b ∷ w)) ≡ true → (step Start b ≡ Dead → ⊥)
first_step b w a e = let k : accepts (after (step Start b) w) ≡ false = ap (λ (u : State). accepts (after u w)) e ∙ ap accepts (dead w) in absurd cc

pub accepted_plain : (b : ℕ) → (step Start b ≡ Dead → ⊥) → is_plain b ≡ true
accepted_plain b f = go (is_plain b) refl
  where
    none : is_plain b ≡ false → step Start b ≡ Dead
    none e = grind (arith, nat_tests)

    go : (t : Bool) → is_plain b ≡ t → t ≡ true
    go true e = refl
    go false e = absurd (f (none e))

-- ---- the texts of symbols

abbrev pub symbol_text : Symbol → List ℕ
symbol_text S.Semicolon = codes ";"
symbol_text S.Colon = codes ":"
symbol_text S.Comma = codes ","
symbol_text S.Dots = codes ".."
symbol_text S.LeftParenthesis = codes "("
symbol_text S.RightParenthesis = codes ")"
symbol_text S.LeftBracket = codes "["
symbol_text S.RightBracket = codes "]"
symbol_text S.LeftBrace = codes "{"
symbol_text S.RightBrace = codes "}"
symbol_text S.Equal = codes "="
symbol_text S.Unequal = codes "!="
symbol_text S.Less = codes "<"
symbol_text S.AtMost = codes "<="
symbol_text S.Greater = codes ">"
symbol_text S.AtLeast = codes ">="
symbol_text S.Plus = codes "+"
symbol_text S.Minus = codes "-"
symbol_text S.Star = codes "*"
symbol_text S.Slash = codes "/"
symbol_text S.Prime = codes "'"
symbol_text S.And = codes "&"
symbol_text S.Or = codes "|"
symbol_text S.Not = codes "!"
symbol_text S.Implies = codes "=>"
symbol_text S.Iff = codes "<=>"
symbol_text S.Arrow = codes "->"
symbol_text S.Question = codes "?"

-- whether a longer symbol, or a comment, may begin with it
abbrev pub is_open : Symbol → Bool
is_open S.Equal = true
is_open S.Less = true
is_open S.AtMost = true
is_open S.Greater = true
is_open S.Minus = true
is_open S.Slash = true
is_open S.Not = true
is_open s = false

plain_parts : (c : ℕ) → is_plain c ≡ true → ((61 == c) ≡ false) × ((62 == c) ≡ false) × ((c == 47) ≡ false)
plain_parts c h = (grind (arith, nat_tests), grind (arith, nat_tests), grind (arith, nat_tests))

abbrev Fronts : Symbol → List ℕ → Type 0
Fronts s rest = Some (s, length (symbol_text s)) ≡ front_symbol (symbol_text s ++ rest)

open_front : (s : Symbol) (rest : List ℕ) → is_open s ≡ true → Plain rest → Fronts s rest
open_front S.Equal [] o p = refl
open_front S.Equal (c ∷ r) o p = rw (plain_parts c p).1 refl
open_front S.Less [] o p = refl
open_front S.Less (c ∷ r) o p = rw (plain_parts c p).0 refl
open_front S.AtMost [] o p = refl
open_front S.AtMost (c ∷ r) o p = rw (plain_parts c p).1 refl
open_front S.Greater [] o p = refl
open_front S.Greater (c ∷ r) o p = rw (plain_parts c p).0 refl
open_front S.Minus [] o p = refl
open_front S.Minus (c ∷ r) o p = rw (plain_parts c p).1 refl
open_front S.Slash rest o p = refl
open_front S.Not [] o p = refl
open_front S.Not (c ∷ r) o p = rw (plain_parts c p).0 refl
open_front s rest o p = absurd cc

symbol_front : (s : Symbol) (rest : List ℕ) → (is_open s ≡ true → Plain rest) → Fronts s rest
symbol_front S.Equal rest p = open_front S.Equal rest refl (p refl)
symbol_front S.Less rest p = open_front S.Less rest refl (p refl)
symbol_front S.AtMost rest p = open_front S.AtMost rest refl (p refl)
symbol_front S.Greater rest p = open_front S.Greater rest refl (p refl)
symbol_front S.Minus rest p = open_front S.Minus rest refl (p refl)
symbol_front S.Slash rest p = open_front S.Slash rest refl (p refl)
symbol_front S.Not rest p = open_front S.Not rest refl (p refl)
symbol_front s rest p = refl

slash_solid : (rest : List ℕ) → Plain rest → is_solid (47 ∷ rest) ≡ true
slash_solid [] p = refl
slash_solid (c ∷ r) p = rw (plain_parts c p).2 refl

symbol_solid : (s : Symbol) (rest : List ℕ) → (is_open s ≡ true → Plain rest) → is_solid (symbol_text s ++ rest) ≡ true
symbol_solid S.Slash rest p = slash_solid rest (p refl)
symbol_solid s rest p = refl

pub symbol_stands : (s : Symbol) (rest : List ℕ) → (is_open s ≡ true → Plain rest) → Stands (K.Symbol s) (symbol_text s) rest
symbol_stands s rest p =
    let w = symbol_text s in
    let b : IsBest (w ++ rest) s (length w) = best_at (w ++ rest) (Some (s, length w)) (symbol_front s rest p) in
    let k : lookup w symbols ≡ Some s = ap (λ (u : List ℕ). lookup u symbols) (sym (take-append_seam w rest)) ∙ b.is in
    let n : longest Start (w ++ rest) ≡ 0 = symbol_alone (w ++ rest) w rest refl (some_is _ s k) in
    record {
      kind = k;
      longest = record { is = (K.Symbol s, k); longest = (begins_symbol (w ++ rest) (length w) s n b).longest };
      solid = symbol_solid s rest p;
    }

pub symbol_calm : (s : Symbol) (rest : List ℕ) → Calm (symbol_text s ++ rest)
symbol_calm S.Dots rest = at_dots rest refl
symbol_calm S.Unequal rest = at_byte 33 (61 ∷ rest) refl refl
symbol_calm S.AtMost rest = at_byte 60 (61 ∷ rest) refl refl
symbol_calm S.AtLeast rest = at_byte 62 (61 ∷ rest) refl refl
symbol_calm S.Implies rest = at_byte 61 (62 ∷ rest) refl refl
symbol_calm S.Iff rest = at_byte 60 (61 ∷ 62 ∷ rest) refl refl
symbol_calm S.Arrow rest = at_byte 45 (62 ∷ rest) refl refl
symbol_calm s rest = at_byte _ rest refl refl

-- ---- words, names, numbers and titles

accepted_solid : (b : ℕ) (bs : List ℕ) → (step Start b ≡ Dead → ⊥) → is_solid (b ∷ bs) ≡ true
accepted_solid b bs f = go (is_separator b) refl (b == 47) refl
  where
    gap : is_separator b ≡ true → step Start b ≡ Dead
    gap e = grind (arith, nat_tests)

    slash : (b == 47) ≡ true → step Start b ≡ Dead
    slash e = grind (arith, nat_tests)

    go : (s : Bool) → is_separator b ≡ s → (t : Bool) → (b == 47) ≡ t → not (s || (t && begins_slash bs)) ≡ true
    go true e t g = absurd (f (gap e))
    go false e true g = absurd (f (slash g))
    go false e false g = refl

none_empty : (n : ℕ) (b : ℕ) (w : List ℕ) → n ≡ length (b ∷ w) → 0 < n
none_empty n b w e = omega arith

pub accepted_stands : (k : TokenKind) (w rest : List ℕ) → IsKind w k → accepts (after Start w) ≡ true → Calm rest → Stands k w rest
accepted_stands k [] rest h a c = absurd cc
accepted_stands k (b ∷ w) rest h a c =
    let n = longest_append Start b w rest a (calm_stop (after Start (b ∷ w)) rest a c) in
    let F : List ℕ → Type 0 = λ u. IsKind u k in
    record {
      kind = h;
      longest = record { is = (k, h); longest = (begins_scanned ((b ∷ w) ++ rest) (length (b ∷ w)) k (sym n) (none_empty _ b w refl) (subst F (sym (take-append_seam (b ∷ w) rest)) h)).longest };
      solid = accepted_solid b (w ++ rest) (first_step b w a);
    }

-- nor does a symbol go on into them
pub accepted_plain_text : (w rest : List ℕ) → accepts (after Start w) ≡ true → Plain (w ++ rest)
accepted_plain_text [] rest a = absurd cc
accepted_plain_text (b ∷ w) rest a = accepted_plain b (first_step b w a)
