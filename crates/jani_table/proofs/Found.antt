-- What is found in a table, row by row.
use Rattle.std.proofs.Common.{◌≡◌, ℕ, ◌+◌, ◌<◌, ◌≤◌, sym, ap, ◌∙◌, List, Option, Some, None, Bool, true, false, if◌then◌else◌, length, drop, get_or}
use Rattle.std.specs.Prelude.{find}
use Rattle.std.proofs.lemmas.List.{drop_more}
use Rattle.jani_table.specs.NodeLaws.{drop_all}

module _ {A : Type 0} (p : A → Bool) (xs : List A) (i : ℕ) (all : Option A) where
  rest : (x : A) → i < length xs → find p (drop i xs) ≡ all → (if p (get_or xs i x) then Some (get_or xs i x) else find p (drop (i + 1) xs)) ≡ all
  rest x h inv = sym (ap (find p) (drop_more xs i x h)) ∙ inv

  -- this one is sought
  pub found_here : (x : A) (b : Bool) → b ≡ p (get_or xs i x) → b ≡ true → i < length xs → find p (drop i xs) ≡ all → Some (get_or xs i x) ≡ all
  found_here x b e t h inv = sym (ap (λ c. if c then Some (get_or xs i x) else find p (drop (i + 1) xs)) (sym e ∙ t)) ∙ rest x h inv

  -- this one isn't
  pub found_later : (x : A) (b : Bool) → b ≡ p (get_or xs i x) → b ≡ false → i < length xs → find p (drop i xs) ≡ all → find p (drop (i + 1) xs) ≡ all
  found_later x b e t h inv = sym (ap (λ c. if c then Some (get_or xs i x) else find p (drop (i + 1) xs)) (sym e ∙ t)) ∙ rest x h inv

  pub found_nowhere : length xs ≤ i → find p (drop i xs) ≡ all → None ≡ all
  found_nowhere h inv = sym (ap (find p) (drop_all xs i h)) ∙ inv
