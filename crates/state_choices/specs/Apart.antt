-- In how many columns two states differ, and assignments taken back. (This project's own.)
use Rattle.std.specs.Prelude.{ℕ, ◌+◌, List, [], ◌∷◌, if◌then◌else◌, false, get_or, slice_set}
use Rattle.op_trees.specs.declared.tree.Value.{Value}
use Rattle.op_trees.specs.declared.tree.Value.TheVariants as V
use Rattle.process_core.specs.Ready.{Values, Write}
use Rattle.process_core.specs.Equal.{equal_values}

-- 1 where a value isn't the wanted one
abbrev pub differs : Value → Value → ℕ
differs x wanted = if equal_values wanted x then 0 else 1

abbrev pub columns_apart : Values → Values → ℕ
columns_apart [] t = 0
columns_apart (x ∷ s) [] = 0
columns_apart (x ∷ s) (y ∷ t) = differs x y + columns_apart s t

-- each column that is written has its value from before
abbrev pub taken_back : Values → Values → List Write → Values
taken_back from s [] = s
taken_back from s (w ∷ ws) = taken_back from (slice_set s w.column (get_or from w.column (V.Truth false))) ws
