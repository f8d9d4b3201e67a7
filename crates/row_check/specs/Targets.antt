-- What a program keeps of the rows it has read, to tell a repeated target. (This project's own.)
use Rattle.std.specs.Prelude.{◌≡◌, ℕ, List, [], ◌∷◌, ◌&&◌, Bool, false, nat_eq}
use Rattle.std.specs.List.{list_any}
use Rattle.std.specs.Ordering.{nat_cmp}
use Rattle.std.specs.BTreeSet.{BTreeSet, contains}
use Rattle.row_check.specs.declared.data.Row.{Row}
use Rattle.row_check.specs.Rows.{same_choice, AreOrdered}
use Rattle.row_check.specs.Forms.{MayFollow}

abbrev pub is_of_last_choice : List Row → Row → Bool
is_of_last_choice [] r = false
is_of_last_choice (q ∷ []) r = same_choice q r
is_of_last_choice (q ∷ p ∷ qs) r = is_of_last_choice (p ∷ qs) r

-- These are the targets of the choice of the last row: they tell whether the target of a row that may follow stood before.
pub record KeepsTargets (targets : BTreeSet ℕ) (before : List Row) : Type 0 where
  pub ordered : AreOrdered before
  pub tell : (r : Row) → MayFollow before r → list_any (λ q. same_choice q r && nat_eq q.target r.target) before ≡ (is_of_last_choice before r && contains nat_cmp targets r.target)
