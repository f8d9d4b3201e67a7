-- What a program keeps to count merged choices: how often each occurs, under keys that tell them apart. (This project's own.)
use Rattle.std.specs.Prelude.{◌≡◌, ℕ, ℤ, pos, List, [], ◌∷◌, ◌++◌, map, Option, Some, None, Vec, length, unwrap_or}
use Rattle.std.specs.Global.{Global}
use Rattle.std.specs.List.{count_by}
use Rattle.std.specs.Ordering.{int_eq}
use Rattle.std.specs.Cmp.Lexicographic.{pointwise}
use Rattle.std.specs.BTreeMap.{BTreeMap, get}
use Rattle.frac_core.specs.Fraction.{Fraction}
use Rattle.process_core.specs.Ready.{Name}
use Rattle.row_check.specs.declared.merging.MergedChoice.{MergedChoice}
use Rattle.process_core.specs.Merging.{by_items}

abbrev pub name_key : Name → List ℤ
name_key name = pos 1 ∷ pos (length name) ∷ map (λ b. pos b) name

abbrev pub label_key : Option Name → List ℤ
label_key None = pos 0 ∷ []
label_key (Some name) = name_key name

abbrev pub entry_key : ℕ × Fraction → List ℤ
entry_key e = pos e.0 ∷ e.1.num ∷ pos e.1.den ∷ []

abbrev pub entries_key : List (ℕ × Fraction) → List ℤ
entries_key [] = []
entries_key (e ∷ es) = entry_key e ++ entries_key es

abbrev pub choice_key : MergedChoice → List ℤ
choice_key m = label_key m.label ++ entries_key m.sums.entries

abbrev pub times_of : BTreeMap (Vec ℤ Global) ℕ → Vec ℤ Global → ℕ
times_of t q = unwrap_or (get by_items t q) 0

-- under each key stands how many of the choices have it
abbrev pub AreCounted : BTreeMap (Vec ℤ Global) ℕ → List MergedChoice → Type 0
AreCounted t ms = (q : Vec ℤ Global) → times_of t q ≡ count_by (λ m. pointwise int_eq q.items (choice_key m)) ms
