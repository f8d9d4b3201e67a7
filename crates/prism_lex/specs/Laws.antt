-- What holds of the readings of a text, and of a reader that goes from token to token.
use Rattle.std.specs.Prelude.{◌≡◌, ◌↔◌, ℕ, ◌<◌, ◌≤◌, ◌^◌, nat_abs, true, false, List, [], ◌∷◌, ◌++◌, None}
use Rattle.bridge_io.specs.declared.reason.Fault.{Fault}
use Rattle.frac_core.specs.declared.decimal.Decimal.{Decimal}
use Rattle.frac_core.specs.Decimal.{is_normal}
use Rattle.prism_lex.specs.declared.token.Token.{Token}
use Rattle.prism_lex.specs.Numbers.{IsWorth}
use Rattle.frac_core.specs.Numeral.{is_beyond}
use Rattle.prism_lex.specs.Tokens.{Lexeme, Ending, end_of, lexeme_of, refusal_of, IsNext, IsEnd, Reads, Tokens, TokenFaults, Continues, IsFault}

-- From an offset on comes one token at most, and none where only a gap is left.
abbrev pub OneNext : Type 0
OneNext = (bytes : List ℕ) (from : ℕ) (l m : Lexeme) → IsNext bytes from l → IsNext bytes from m → l ≡ m

abbrev pub EndHasNoNext : Type 0
EndHasNoNext = (bytes : List ℕ) (from : ℕ) (l : Lexeme) → IsEnd bytes from → IsNext bytes from l → ⊥

-- A text has one reading from each offset, one list of tokens at most, and one list of faults.
abbrev pub OneReading : Type 0
OneReading = (bytes : List ℕ) (from : ℕ) (ls ms : List Lexeme) (e f : Ending) →
    Reads bytes from ls e → Reads bytes from ms f → (ls ≡ ms) × (e ≡ f)

abbrev pub OneList : Type 0
OneList = (bytes : List ℕ) (ls ms : List Lexeme) → Tokens bytes ls → Tokens bytes ms → ls ≡ ms

abbrev pub OneFaults : Type 0
OneFaults = (bytes : List ℕ) (fs gs : List Fault) → TokenFaults bytes fs → TokenFaults bytes gs → fs ≡ gs

abbrev pub SomeFaults : Type 0
SomeFaults = (bytes : List ℕ) → (fs : List Fault) × TokenFaults bytes fs

-- None of the tokens is refused.
abbrev pub AllAccepted : List Lexeme → Type 0
AllAccepted [] = Unit {0}
AllAccepted (l ∷ ls) = (refusal_of l ≡ None) × AllAccepted ls

-- The bytes have tokens none of which is refused.
abbrev pub IsClean : List ℕ → Type 0
IsClean bytes = (ls : List Lexeme) × Tokens bytes ls × AllAccepted ls

-- That is so just where they have no fault.
abbrev pub CleanIsFaultless : Type 0
CleanIsFaultless = (bytes : List ℕ) → IsClean bytes ↔ TokenFaults bytes []

-- Reading from one offset gives these tokens, none of them refused, and comes to another.
abbrev pub Reaches : List ℕ → ℕ → List Lexeme → ℕ → Type 0
Reaches bytes from [] to = from ≡ to
Reaches bytes from (l ∷ ls) to = IsNext bytes from l × (refusal_of l ≡ None) × Reaches bytes (end_of l) ls to

-- All faults stand behind an offset.
abbrev pub AllBehind : ℕ → List Fault → Type 0
AllBehind at [] = Unit {0}
AllBehind at (f ∷ fs) = (at < f.at) × AllBehind at fs

-- The fault is the first of the bytes: all others stand behind it.
abbrev pub IsFirstFault : List ℕ → Fault → Type 0
IsFirstFault bytes f = (fs : List Fault) × TokenFaults bytes (f ∷ fs) × AllBehind f.at fs

-- A token goes on with the list that a reader has so far.
abbrev pub NextGoesOn : Type 0
NextGoesOn = (bytes : List ℕ) (from to : ℕ) (ls : List Lexeme) (t : Token) →
    Reaches bytes from ls to → Continues bytes to t → Reaches bytes from (ls ++ lexeme_of bytes t ∷ []) t.end

-- At the end the list is that of the bytes, and they have no fault.
abbrev pub EndIsWhole : Type 0
EndIsWhole = (bytes : List ℕ) (to : ℕ) (ls : List Lexeme) →
    Reaches bytes 0 ls to → IsEnd bytes to → Tokens bytes ls × AllAccepted ls × TokenFaults bytes []

-- A fault is the first of the bytes, which have no list of tokens of which none is refused.
abbrev pub FaultIsFirst : Type 0
FaultIsFirst = (bytes : List ℕ) (to : ℕ) (ls : List Lexeme) (f : Fault) →
    Reaches bytes 0 ls to → IsFault bytes to f → IsFirstFault bytes f × ((ms : List Lexeme) → Tokens bytes ms → AllAccepted ms → ⊥)

-- The value of a number has no sign, is in normal form, and is within the limits where the number is not refused.
abbrev pub NumberHasNoSign : Type 0
NumberHasNoSign = (w : List ℕ) (d : Decimal) → IsWorth w d → d.negative ≡ false

abbrev pub NumberIsNormal : Type 0
NumberIsNormal = (w : List ℕ) (d : Decimal) → IsWorth w d → is_normal d ≡ true

abbrev pub NumberIsWithin : Type 0
NumberIsWithin = (w : List ℕ) (d : Decimal) → IsWorth w d → is_beyond w ≡ false → (d.digits < 10 ^ 38) × (nat_abs d.exponent ≤ 400)
