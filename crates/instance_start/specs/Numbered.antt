-- Things that stand in one list, each with a number, in place of a list for each number. (This project's own rule.)
use Rattle.std.specs.Prelude.{ℕ, List, map, nat_eq}
use Rattle.std.specs.List.{filter, range_with_len}

pub record Numbered (X : Type 0) : Type 0 where
  pub number : ℕ
  pub value : X

abbrev pub with_value : {X Y : Type 0} → (X → Y) → Numbered X → Numbered Y
with_value f x = record { number = x.number; value = f x.value }

-- those of a number
abbrev pub of_number : {X : Type 0} → ℕ → List (Numbered X) → List X
of_number k xs = map (λ x. x.value) (filter (λ x. nat_eq k x.number) xs)

-- those of each of so many numbers
abbrev pub by_number : {X : Type 0} → ℕ → List (Numbered X) → List (List X)
by_number n xs = map (λ k. of_number k xs) (range_with_len 0 n)
