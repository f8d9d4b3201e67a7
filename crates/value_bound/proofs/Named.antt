-- One name further along the labels.
use Rattle.std.proofs.Common.{◌≡◌, ℕ, ◌+◌, ◌<◌, ◌≤◌, List, Option, Some, true, false, if◌then◌else◌, length, drop, take, sym, ap, ◌∙◌, arith}
use Rattle.std.specs.Prelude.{slice_get, bytes_eq}
use Rattle.std.proofs.lemmas.List.{get_or-take, length-take-le}
use Rattle.std.proofs.lemmas.Option.{get_or_from_slice_get}
use Rattle.process_core.specs.Ready.{Name}
use Rattle.row_check.proofs.Walked.{from_place}
use Rattle.value_bound.specs.Labels.{name_from}

module _ (ns : List Name) (m i : ℕ) (name : List ℕ) (n : Name) (few : m ≤ length ns) (l : i < m) (e : slice_get ns i ≡ Some n) (o : Option ℕ) (kept : o ≡ name_from i name (drop i (take m ns))) where
  next : o ≡ (if bytes_eq n name then Some i else name_from (i + 1) name (drop (i + 1) (take m ns)))
  next = kept ∙ ap (name_from i name) (from_place (take m ns) i n (let q = length-take-le m ns few in omega (arith, l, q)) (sym (get_or-take m ns i n l ∙ get_or_from_slice_get ns i n n e)))

  pub name_here : bytes_eq n name ≡ true → Some i ≡ o
  name_here h = sym (next ∙ ap (λ b. if b then Some i else name_from (i + 1) name (drop (i + 1) (take m ns))) h)

  pub name_past : bytes_eq n name ≡ false → o ≡ name_from (i + 1) name (drop (i + 1) (take m ns))
  name_past h = next ∙ ap (λ b. if b then Some i else name_from (i + 1) name (drop (i + 1) (take m ns))) h
