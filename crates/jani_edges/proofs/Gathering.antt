-- Lists that loops gather, one member more.
use Rattle.std.proofs.Common.{◌≡◌, List, [], ◌∷◌, refl}
use Rattle.std.specs.Prelude.{Bool, true, false, if◌then◌else◌, Some, unwrap_or, bytes_eq}
use Rattle.process_core.specs.Ready.{Name}
use Rattle.name_table.specs.declared.entry.Entry.{Entry}
use Rattle.name_table.specs.Asks.{new_name}
use Rattle.jani_edges.specs.Code.{found}

-- ---- names that are found
pub found_is : (ys : List Name) (es : List Entry) (x : Name) → unwrap_or (found ys es x) [] ≡ new_name ys es x
found_is [] es x = refl
found_is (y ∷ ys) [] x = refl
found_is (y ∷ ys) (e ∷ es) x = by_test (bytes_eq y x) (found_is ys es x)
  where
    by_test : (b : Bool) → unwrap_or (found ys es x) [] ≡ new_name ys es x → unwrap_or (if b then Some e.name else found ys es x) [] ≡ (if b then e.name else new_name ys es x)
    by_test true h = refl
    by_test false h = h
