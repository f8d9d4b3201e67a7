-- The place of an offset.
use Rattle.std.proofs.Common.{◌≡◌, ◌∙◌, ap, ℕ, ◌+◌, List, length, take, min}
use Rattle.std.proofs.lemmas.List.{take_min}
use Rattle.std.specs.Prelude.{◌==◌, count_by}
use Rattle.std.specs.List.{after_last}
use Rattle.bridge_io.specs.Place.{line_at, column_at}
use Rattle.bridge_io.specs.declared.place.Place.{Place}
use Rattle.model_command.specs.Outcome.{place_in}

pub same_place : (p : Place) (l k : ℕ) → p.line ≡ l → p.column ≡ k → p ≡ record { line = l; column = k }
same_place p l k a b = ap (λ x. record { line = x; column = p.column }) a ∙ ap (λ x. record { line = l; column = x }) b

-- one past the end has the place of the end
pub capped : (p : Place) (bytes : List ℕ) (at i : ℕ) → i ≡ min at (length bytes) → p.line ≡ line_at bytes i → p.column ≡ column_at bytes i → p ≡ place_in bytes at
capped p bytes at i is line column =
    let same : take i bytes ≡ take at bytes = ap (λ n. take n bytes) is ∙ take_min at bytes in
    same_place p _ _ (line ∙ ap (λ l. 1 + count_by (λ b. b == 10) l) same) (column ∙ ap (λ l. 1 + length (after_last (λ b. b == 10) l)) same)
