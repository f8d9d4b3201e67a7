-- Laws of products, choices and columns, as statements: what the contracts of the empty functions promise.
use Rattle.std.specs.Prelude.{◌≡◌, ◌<◌, ℕ, List, [], map, length, true, not, Bool, Option, Some, slice_get, slice_set}
use Rattle.std.specs.List.{flat_map, filter, list_any, count_by, All}
use Rattle.op_trees.specs.declared.tree.Value.{Value}
use Rattle.process_core.specs.Process.{EquallyOften}
use Rattle.process_core.specs.Product.{one_of_each}
use Rattle.process_core.specs.Ready.{Values, Name, Ready, Sum, together}
use Rattle.process_core.specs.Choices.{choice_of, choices}
use Rattle.choice_laws.specs.Products.{Place, OneIsParted, wholes, parts_for}
use Rattle.choice_laws.specs.Rewards.{earning, is_enabled, bare_ready, AllEarn}
use Rattle.choice_laws.specs.Columns.{value_at, state_by, slot, stands}

-- ---- products
pub record SplitLaws (X Y : Type 0) : Type 0 where
  -- the ways through lists of which one is split are those through the parts for each thing in turn
  pub parted : (ts : List Y) (ps : List (Place X Y)) → OneIsParted ts ps → EquallyOften (one_of_each (wholes ps)) (flat_map (λ t. one_of_each (parts_for t ps)) ts)
  -- where each member passes one of some tests, the members are those that pass each test in turn
  pub once : (q : Y → X → Bool) (ts : List Y) (xs : List X) → All (λ x. count_by (λ t. q t x) ts ≡ 1) xs → EquallyOften xs (flat_map (λ t. filter (q t) xs) ts)
  -- where a way with a member that fails a test gives nothing, such members may be left out
  pub kept : (p : X → Bool) (xss : List (List X)) (f : List X → List Y) → ((rs : List X) → list_any (λ x. not (p x)) rs ≡ true → f rs ≡ []) →
      flat_map f (one_of_each xss) ≡ flat_map f (one_of_each (map (filter p) xss))

-- ---- choices
pub record RewardLaws : Type 0 where
  -- members whose guards are false may be left out
  pub enabled : (s : Values) (label : Option Name) (own : List Sum) (lists : List (List Ready)) →
      choices s (together label own lists) ≡ choices s (together label own (map (filter is_enabled) lists))
  -- where each way earns the same, the choice of a combination is that of the one which earns it by itself, and whose
  -- participants assign no rewards
  pub bare : (s : Values) (label : Option Name) (own given : List Sum) (rs : List Ready) → AllEarn own rs given →
      choice_of s (earning label own rs) ≡ choice_of s (earning label given (map bare_ready rs))

-- ---- columns
pub record ColumnLaws (columns : List ℕ) (n : ℕ) : Type 0 where
  -- the state that goes with a state has the value of the column
  pub reads : (s : Values) (i : ℕ) → i < n → slice_get (state_by columns n s) i ≡ Some (value_at columns s i)
  -- and a write to the column is one to its place
  pub writes : (s : Values) (j : ℕ) (v : Value) → length s ≡ length columns → stands columns j ≡ true → j < n →
      slice_set (state_by columns n s) j v ≡ state_by columns n (slice_set s (slot columns j) v)
