-- Those that pass a test, walked through; and homes by the table of writers.
use Rattle.std.proofs.Common.{◌≡◌, ◌+◌, List, [], ◌∷◌, ◌++◌, map, cond, refl, ap, ◌∙◌}
use Rattle.std.specs.Prelude.{Bool, true, false, ℕ, Option, Some, None}
use Rattle.std.specs.List.{flat_map, filter}
use Rattle.jani_tree.specs.Syntax.{File}
use Rattle.jani_meaning.specs.Elements.{is_owner}
use Rattle.process_core.specs.Instance.{only_if}
use Rattle.edge_tables.specs.Elements.{Lasting, home, home_by, writers, is_at}
use Rattle.module_parts.specs.declared.writers.WriterTable.{WriterTable}
use Rattle.module_parts.specs.Writers.{home_for, writers_at}
use Rattle.module_parts.specs.Homes.{AreWriters, home_with, home_by_table}
use Rattle.module_parts.proofs.WritersOf.{home_is}

pub kept_walk : {A B : Type 0} (q : B → Bool) (s : A → B) (xs : List A) → flat_map (λ x. only_if (q (s x)) (s x)) xs ≡ filter q (map s xs)
kept_walk q s [] = refl
kept_walk q s (x ∷ xs) = by_test (q (s x)) (kept_walk q s xs)
  where
    by_test : (b : Bool) → flat_map (λ x. only_if (q (s x)) (s x)) xs ≡ filter q (map s xs) →
        only_if b (s x) ++ flat_map (λ x. only_if (q (s x)) (s x)) xs ≡ cond b (s x ∷ filter q (map s xs)) (filter q (map s xs))
    by_test true e = ap (λ l. s x ∷ l) e
    by_test false e = e

pub at_owner : (k : ℕ) (o : Option ℕ) → is_at k o ≡ is_owner k o
at_owner k None = refl
at_owner k (Some i) = refl

-- the home by the table is the home
pub home_same : (t : WriterTable) (file : File) (x : Lasting) → AreWriters t file → home_by_table t x ≡ home file x
home_same t file x are = by_owner x.owned.owner
  where
    by_owner : (o : Option ℕ) → home_with (writers_at t x.number) o ≡ home_by (writers file x.number) o
    by_owner None = ap home_for (are.writers_are x.number) ∙ home_is file x.number
    by_owner (Some k) = refl
