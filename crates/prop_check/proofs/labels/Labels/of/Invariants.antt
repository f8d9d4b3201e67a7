use Rattle.std.specs.Prelude.{◌≡◌, ◌++◌, ◌||◌, map, drop}
use Rattle.std.specs.List.{list_any}
use Rattle.op_trees.specs.Names.{is_called}
use Rattle.name_rules.specs.Names.{is_among}
use Rattle.prism_tree.specs.Syntax.{label_of}
use Rattle.prism_check.specs.NameFaults.{given_labels}
use Rattle.prop_check.specs.Tables.{has_label}
use Rattle.prop_check.proofs.labels.Labels.of.Given as goal

abbrev pub invariant-loop-label : goal.invariant-loop-label
invariant-loop-label l =
    (λ x. has_label l.labels x || list_any (is_called x) (map (λ k. (label_of k).name) (drop l.label-index l.all)))
    ≡ is_among (given_labels ++ map (λ k. (label_of k).name) l.all)
