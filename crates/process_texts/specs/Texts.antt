-- Values, states, headers and names as they are printed. (The texts are this project's own rule; identifiers and reserved words
-- are those of the PRISM manual, strings those of RFC 8259.)
use Rattle.std.specs.Prelude.{◌≡◌, ◌⊎◌, ◌↔◌, ℕ, List, [], ◌++◌, map, Bool, true, false, codes, decimal, if◌then◌else◌, nat_lt}
use Rattle.std.specs.Fmt.{signed_decimal}
use Rattle.frac_core.specs.Fraction.{Fraction, is_whole}
use Rattle.op_trees.specs.declared.tree.Value.{Value}
use Rattle.op_trees.specs.declared.tree.Value.TheVariants.{Truth, Number}
use Rattle.process_core.specs.Ready.{Values, Name}
use Rattle.decimal_json.specs.Text.{with_commas, quoted}
use Rattle.prism_lex.specs.declared.words.Reserved.{Reserved}
use Rattle.prism_lex.specs.declared.token.TokenKind.TheVariants.{Ident, Word}
use Rattle.prism_lex.specs.Tokens.{IsKind, is_name}

-- n or n/d
abbrev pub fraction_text : Fraction → List ℕ
fraction_text x = signed_decimal x.num ++ (if is_whole x then [] else codes "/" ++ decimal x.den)

abbrev pub truth_text : Bool → List ℕ
truth_text true = codes "true"
truth_text false = codes "false"

abbrev pub value_text : Value → List ℕ
value_text (Truth b) = truth_text b
value_text (Number x) = fraction_text x

-- in parentheses, with commas between them
abbrev pub tuple_text : List (List ℕ) → List ℕ
tuple_text ts = codes "(" ++ (with_commas ts ++ codes ")")

-- what stands before the part of this number
abbrev pub comma_before : ℕ → List ℕ
comma_before i = if nat_lt 0 i then codes "," else []

abbrev pub state_text : Values → List ℕ
state_text s = tuple_text (map value_text s)

abbrev pub header_text : List Name → List ℕ
header_text columns = tuple_text columns

-- an identifier or a reserved word stands as it is, any other name as a JSON string
abbrev pub name_text : Name → List ℕ
name_text x = if is_name x then x else quoted x

-- a letter or _, then letters, digits and _: that is an identifier or a reserved word
abbrev pub NameIsPlain : Type 0
NameIsPlain = (x : Name) → (is_name x ≡ true) ↔ (IsKind x Ident ⊎ ((r : Reserved) × IsKind x (Word r)))
