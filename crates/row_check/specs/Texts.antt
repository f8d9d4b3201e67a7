-- The texts that stand in files of states, rows and paths. Each is UTF-8. (States, names and fractions are those that
-- `process_texts` reads; the rest is this project's own.)
use Rattle.std.specs.Prelude.{◌≡◌, ℕ, ◌^◌, ◌<◌, List, ◌∷◌, ◌++◌, false, true, Option, Some, None, Bool, [], nat_eq}
use Rattle.std.specs.List.{list_any}
use Rattle.std.specs.Str.{is_utf8}
use Rattle.std.specs.Str.Parse.{IsNumeral, digits_value}
use Rattle.frac_core.specs.Fraction.{Fraction, is_wide}
use Rattle.op_trees.specs.declared.tree.Value.{Value}
use Rattle.op_trees.specs.declared.tree.Value.TheVariants.{Truth, Number}
use Rattle.process_core.specs.Ready.{Name}
use Rattle.process_core.specs.declared.data.State.{State}
use Rattle.process_texts.specs.Given.{IsValue, is_wide_value}
use Rattle.process_texts.specs.Names.{SpellsName}
use Rattle.process_texts.specs.States.{SpellsState}

-- a number below 2^64 in decimal, with any leading zeros
pub record IsNumber (text : List ℕ) (n : ℕ) : Type 0 where
  pub digits : IsNumeral 10 text
  pub worth : digits_value 10 text ≡ n
  pub fits : n < 2 ^ 64

-- a number, a space and the rest
pub record IsNumberBefore (text : List ℕ) (n : ℕ) (rest : List ℕ) : Type 0 where
  pub number : List ℕ
  pub parts : text ≡ number ++ 32 ∷ rest
  pub is : IsNumber number n

-- a state, whose numbers are below 2^62 in size
pub record IsStateText (text : List ℕ) (s : State) : Type 0 where
  pub utf8 : is_utf8 text ≡ true
  pub spells : SpellsState text s.values
  pub narrow : list_any is_wide_value s.values ≡ false

pub record IsNameText (text : List ℕ) (name : Name) : Type 0 where
  pub utf8 : is_utf8 text ≡ true
  pub spells : SpellsName text name

-- a number as PRISM texts have it or `n/d`, without a minus before it, within the bound of fractions and the limits of numbers
-- in files
pub record IsProbability (text : List ℕ) (w : Fraction) : Type 0 where
  pub utf8 : is_utf8 text ≡ true
  pub bare : (rest : List ℕ) → text ≡ 45 ∷ rest → ⊥
  pub spells : IsValue text (Number w) false
  pub narrow : is_wide w ≡ false

abbrev pub number_in : Value → Option Fraction
number_in (Truth b) = None
number_in (Number x) = Some x

abbrev pub begins_with : ℕ → List ℕ → Bool
begins_with b [] = false
begins_with b (c ∷ text) = nat_eq c b
