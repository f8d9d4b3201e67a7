-- Words that give values of constants, NAME=VALUE. (This project's own rule.)
use Rattle.std.specs.Prelude.{◌≡◌, ℕ, List, ◌++◌, map, codes, bytes_eq, Option, Some, None}
use Rattle.std.specs.List.{AllZip, IsDistinct}
use Rattle.process_texts.specs.Given.{Answers, IsValue}
use Rattle.process_texts.specs.declared.given.GivenText.{GivenText}
use Rattle.process_texts.specs.declared.given.GivenText.TheVariants.{Good, Past, NoForm}
use Rattle.command_words.specs.Numbers.{IsWithout}
use Rattle.command_words.specs.declared.request.Assignment as code

pub record Assignment : Type 0 where
  pub name : List ℕ
  pub value : GivenText

-- the text spells this value, or one that is past the bounds
abbrev pub IsGivenText : List ℕ → GivenText → Type 0
IsGivenText w (Good v) = Answers (IsValue w) (Good v)
IsGivenText w Past = Answers (IsValue w) Past
IsGivenText w NoForm = ⊥

-- NAME=VALUE, split at its last =
pub record IsAssignment (w : List ℕ) (a : Assignment) : Type 0 where
  pub text : List ℕ
  pub word : w ≡ a.name ++ (codes "=" ++ text)
  pub last : IsWithout 61 text
  pub value : IsGivenText text a.value

-- no name stands twice among them
abbrev pub AreApart : List Assignment → Type 0
AreApart given = IsDistinct bytes_eq (map (λ a. a.name) given)

pub record AreGiven (words : List (List ℕ)) (given : List Assignment) : Type 0 where
  pub are : AllZip IsAssignment words given
  pub apart : AreApart given

abbrev pub HasGiven : List (List ℕ) → Type 0
HasGiven words = (given : List Assignment) × AreGiven words given

-- ---- what the code's type stands for
abbrev pub assignment_of : code.Assignment → Assignment
assignment_of a = record { name = a.name.now; value = a.value }

abbrev pub assignments_of : List code.Assignment → List Assignment
assignments_of given = map assignment_of given

-- the assignment that a word is; or none, where it is none
abbrev pub ReadsAssignment : List ℕ → Option code.Assignment → Type 0
ReadsAssignment w (Some a) = IsAssignment w (assignment_of a)
ReadsAssignment w None = (a : Assignment) → IsAssignment w a → ⊥
