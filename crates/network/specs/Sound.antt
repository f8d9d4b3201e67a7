-- A network is what a model is under a valuation. (This project's own rule.)
use Rattle.std.specs.Prelude.{◌≡◌, List, Option, map, length, IsTrue}
use Rattle.std.specs.Coded.{Coded, Coded-set, code_by, coded×, coded_list, coded_option}
use Rattle.std.proofs.Common.{refl}
use Rattle.op_trees.specs.Meaning.{Meaning}
use Rattle.op_trees.specs.Seen.{Seen}
use Rattle.process_core.specs.Ready.{Combination, Name, Ready, Sum, Values}
use Rattle.process_core.specs.Instance.{is_state}
use Rattle.process_core.specs.declared.data.Mark.{Mark}
use Rattle.process_core.specs.contracts.data.Mark as mark
use Rattle.state_choices.specs.Codes.{name_code, ready_code, seen_code, sum_code, one_columns, one_names, one_number, one_truth}
use Rattle.state_choices.specs.Groups.{of_groups}
use Rattle.state_choices.specs.Trimmed.{trimmed_combination, trimmed_group}
use Rattle.instance_start.specs.Columns.{column_of}
use Rattle.network.specs.Network.{condition_at, groups_at, has_wide_mark_at, marks_at}
use Rattle.network.specs.Outline.{Outline}
use Rattle.network.specs.declared.network.Network.{Network}

-- ---- equations that have one proof at most
abbrev combination_code : Coded Combination
combination_code =
    code_by (Option Name × (List Sum × List Ready)) (coded× (coded_option name_code) (coded× (coded_list sum_code) (coded_list ready_code)))
    (λ c. (c.label, (c.rewards, c.participants))) (λ p. record { label = p.0; rewards = p.1.0; participants = p.1.1 }) (λ _. refl)

one_combinations : IsSet (List Combination)
one_combinations = Coded-set (coded_list combination_code)

one_marks : IsSet (List Mark)
one_marks = Coded-set (coded_list mark.the_row.coded)

one_seen : IsSet Seen
one_seen = Coded-set seen_code

-- Its texts, its names, its columns, and whether it has an initial condition; and in each state its condition, its combinations and its
-- marks.
module _ {O : Type 0} (m : Meaning O) (o : Outline) (n : Network O) where
  pub record IsSound : Type 0 where
    pub texts : n.texts ≡ o.texts
    pub marks : map (λ x. x.now) n.marks.items ≡ o.mark_names
    pub labels : length n.labels.items ≡ o.labels
    pub columns : map column_of n.columns.items ≡ o.scene.columns
    pub conditional : n.has_condition ≡ o.scene.has_condition
    pub condition : (s : Values) → IsTrue (is_state o.scene.columns s) → condition_at m n s ≡ (o.at s).condition
    pub combined : (s : Values) → IsTrue (is_state o.scene.columns s) → of_groups (map trimmed_group (groups_at m n s)) ≡ map trimmed_combination (o.at s).combinations
    pub marked : (s : Values) → IsTrue (is_state o.scene.columns s) → marks_at m n s ≡ (o.at s).marks
    pub wide : (s : Values) → IsTrue (is_state o.scene.columns s) → has_wide_mark_at m n s ≡ (o.at s).has_wide_mark

  -- it can be told in one way only
  pub IsSound-prop : IsProp IsSound
  IsSound-prop = hlevel (one_columns, one_combinations, one_marks, one_names, one_number, one_seen, one_truth)
