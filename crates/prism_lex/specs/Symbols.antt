-- The symbols of one, two and three bytes, and the longest at the front of a text.
-- (PRISM manual, "The PRISM Language": the symbols of its expressions, commands and renamings.)
use Rattle.std.specs.Prelude.{ℕ, ◌&&◌, ◌==◌, List, Option, Some, None, get_or, if◌then◌else◌}
use Rattle.prism_lex.specs.declared.symbols.Symbol.{Symbol}
use Rattle.prism_lex.specs.declared.symbols.Symbol.TheVariants.{Semicolon, Colon, Comma, Dots, LeftParenthesis, RightParenthesis, LeftBracket, RightBracket, LeftBrace, RightBrace, Equal, Unequal, Less, AtMost, Greater, AtLeast, Plus, Minus, Star, Slash, Prime, And, Or, Not, Implies, Iff, Arrow, Question}

abbrev pub symbol_of_one : ℕ → Option Symbol
symbol_of_one a =
    if 59 == a then Some Semicolon else
    if 58 == a then Some Colon else
    if 44 == a then Some Comma else
    if 40 == a then Some LeftParenthesis else
    if 41 == a then Some RightParenthesis else
    if 91 == a then Some LeftBracket else
    if 93 == a then Some RightBracket else
    if 123 == a then Some LeftBrace else
    if 125 == a then Some RightBrace else
    if 61 == a then Some Equal else
    if 60 == a then Some Less else
    if 62 == a then Some Greater else
    if 43 == a then Some Plus else
    if 45 == a then Some Minus else
    if 42 == a then Some Star else
    if 47 == a then Some Slash else
    if 39 == a then Some Prime else
    if 38 == a then Some And else
    if 124 == a then Some Or else
    if 33 == a then Some Not else
    if 63 == a then Some Question else
    None

abbrev pub symbol_of_two : ℕ → ℕ → Option Symbol
symbol_of_two a b =
    if 46 == a && 46 == b then Some Dots else
    if 33 == a && 61 == b then Some Unequal else
    if 60 == a && 61 == b then Some AtMost else
    if 62 == a && 61 == b then Some AtLeast else
    if 61 == a && 62 == b then Some Implies else
    if 45 == a && 62 == b then Some Arrow else
    None

abbrev pub symbol_of_three : ℕ → ℕ → ℕ → Option Symbol
symbol_of_three a b c = if 60 == a && (61 == b && 62 == c) then Some Iff else None

-- a symbol and its length, or else another
abbrev pub symbol_or : Option Symbol → ℕ → Option (Symbol × ℕ) → Option (Symbol × ℕ)
symbol_or (Some s) n other = Some (s, n)
symbol_or None n other = other

-- the longest symbol that three bytes begin with, and its length
abbrev pub longest_symbol : ℕ → ℕ → ℕ → Option (Symbol × ℕ)
longest_symbol a b c = symbol_or (symbol_of_three a b c) 3 (symbol_or (symbol_of_two a b) 2 (symbol_or (symbol_of_one a) 1 None))

-- the same at the front of a text, behind whose end zeros are thought
abbrev pub front_symbol : List ℕ → Option (Symbol × ℕ)
front_symbol bytes = longest_symbol (get_or bytes 0 0) (get_or bytes 1 0) (get_or bytes 2 0)
