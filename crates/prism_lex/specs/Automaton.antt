-- Names, numbers and quoted names, as the paths of one automaton (PRISM manual, "The PRISM language": identifiers, constants).
use Rattle.std.specs.Prelude.{ℕ, suc, Bool, true, false, ◌||◌, ◌==◌, List, [], ◌∷◌, if◌then◌else◌, nat_lt}
use Rattle.std.specs.Char.{is_ascii_digit, is_ascii_alphabetic}
use Rattle.prism_lex.specs.declared.automaton.State.{State}
use Rattle.prism_lex.specs.declared.automaton.State.TheVariants.{Start, Letters, Whole, Point, Part, Mark, Sign, Power, Quote, Inside, Closed, Dead}

abbrev pub is_digit : ℕ → Bool
is_digit b = is_ascii_digit b

abbrev pub is_letter : ℕ → Bool
is_letter b = is_ascii_alphabetic b || b == 95

-- A name is a letter or _, then letters, digits and _. A number is digits, or digits that may be missing, a point and
-- digits, each with an optional exponent, which is e or E, an optional sign, and digits. A quoted name is a name
-- between quotes.
abbrev pub step : State → ℕ → State
step Start b = if is_letter b then Letters else if is_digit b then Whole else if b == 46 then Point else if b == 34 then Quote else Dead
step Letters b = if is_letter b || is_digit b then Letters else Dead
step Whole b = if is_digit b then Whole else if b == 46 then Point else if b == 101 || b == 69 then Mark else Dead
step Point b = if is_digit b then Part else Dead
step Part b = if is_digit b then Part else if b == 101 || b == 69 then Mark else Dead
step Mark b = if is_digit b then Power else if b == 43 || b == 45 then Sign else Dead
step Sign b = if is_digit b then Power else Dead
step Power b = if is_digit b then Power else Dead
step Quote b = if is_letter b then Inside else Dead
step Inside b = if is_letter b || is_digit b then Inside else if b == 34 then Closed else Dead
step Closed b = Dead
step Dead b = Dead

-- where a text may end
abbrev pub accepts : State → Bool
accepts Letters = true
accepts Whole = true
accepts Part = true
accepts Power = true
accepts Closed = true
accepts Start = false
accepts Point = false
accepts Mark = false
accepts Sign = false
accepts Quote = false
accepts Inside = false
accepts Dead = false

-- where a text leads
abbrev pub after : State → List ℕ → State
after s [] = s
after s (b ∷ bs) = after (step s b) bs

-- the length of the longest front that is accepted, 0 where none is
abbrev pub longest : State → List ℕ → ℕ
longest s [] = 0
longest s (b ∷ bs) =
    if nat_lt 0 (longest (step s b) bs) then suc (longest (step s b) bs) else if accepts (step s b) then 1 else 0
