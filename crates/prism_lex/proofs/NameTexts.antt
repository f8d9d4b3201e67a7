-- A name has the bytes of letters and digits, and so is a text.
use Rattle.std.specs.Prelude.{◌≡◌, ◌<◌, ℕ, zero, suc, List, [], ◌∷◌, true, ◌||◌}
use Rattle.std.specs.List.{list_all}
use Rattle.std.specs.Str.{IsAscii}
use Rattle.std.proofs.Common.{arith}
use Rattle.std.proofs.lemmas.Bool.{and_parts}
use Rattle.prism_lex.specs.Automaton.{is_letter, is_digit}
use Rattle.prism_lex.specs.Tokens.{is_name}

letter_small : (b : ℕ) → is_letter b ≡ true → b < 128
letter_small b e = grind (arith, e)

part_small : (b : ℕ) → (is_letter b || is_digit b) ≡ true → b < 128
part_small b e = grind (arith, e)

parts_ascii : (bs : List ℕ) → list_all (λ c. is_letter c || is_digit c) bs ≡ true → IsAscii bs
parts_ascii [] e i = omega arith
parts_ascii (b ∷ bs) e zero = part_small b (and_parts _ _ e).0
parts_ascii (b ∷ bs) e (suc i) = parts_ascii bs (and_parts _ _ e).1 i

pub name_ascii : (bs : List ℕ) → is_name bs ≡ true → IsAscii bs
name_ascii [] e i = absurd cc
name_ascii (b ∷ bs) e zero = letter_small b (and_parts _ _ e).0
name_ascii (b ∷ bs) e (suc i) = parts_ascii bs (and_parts _ _ e).1 i
