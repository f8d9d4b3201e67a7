-- The marks of a network in a state: its labels, its sums and its values, one list behind the other.
use Rattle.std.proofs.Common.{◌≡◌, ◌∙◌, List, false, map, sym}
use Rattle.std.specs.List.{list_any}
use Rattle.basics.specs.Members.{any-map}
use Rattle.op_trees.specs.Meaning.{Meaning}
use Rattle.op_trees.specs.Seen.{Seen}
use Rattle.op_trees.specs.declared.tree.Value.{Value}
use Rattle.process_core.specs.Product.{map-map}
use Rattle.process_core.specs.declared.data.Mark.{Mark}
use Rattle.state_choices.specs.Trimmed.{computed}
use Rattle.state_choices.specs.Views.{seen_of}
use Rattle.std.specs.Prelude.{Option}
use Rattle.network.specs.Views.{Setting, value_at, valued_at}
use Rattle.network.specs.declared.data.Valued.{Valued}
use Rattle.network.proofs.StateMarks.{marks_are, marks_wide}

-- of values as evaluations answer them
module _ {O : Type 0} (m : Meaning O) (k : Setting O) (ts : List Valued) where
  answered : map (valued_at m k) ts ≡ map computed (map (value_at m k) ts)
  answered = sym (map-map computed (value_at m k) ts)

  pub values_wide : list_any (λ t. (seen_of (valued_at m k t)).wide) ts ≡ list_any (λ t. (value_at m k t).wide) ts
  values_wide = marks_wide (valued_at m k) ts (map (value_at m k) ts) answered ∙ any-map (λ (s : Seen). s.wide) (value_at m k) ts

  pub values_marks : (mark : Option Value → Mark) → list_any (λ t. (seen_of (valued_at m k t)).wide) ts ≡ false →
      map (λ t. mark (seen_of (valued_at m k t)).value) ts ≡ map (λ t. mark (value_at m k t).value) ts
  values_marks mark n =
      marks_are (valued_at m k) mark ts (map (value_at m k) ts) answered (sym (marks_wide (valued_at m k) ts (map (value_at m k) ts) answered) ∙ n)
      ∙ map-map (λ (s : Seen). mark s.value) (value_at m k) ts
