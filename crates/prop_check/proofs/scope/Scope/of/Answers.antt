use Rattle.std.specs.Prelude.{◌++◌, map}
use Rattle.std.proofs.Common.{◌≡◌, ◌∙◌, ap, sym}
use Rattle.name_rules.specs.Names.{is_among}
use Rattle.prism_tree.specs.Syntax.{File, file_of, label_of, rewards_of}
use Rattle.prism_check.specs.Checked.{Checked}
use Rattle.prism_check.specs.NameFaults.{given_labels}
use Rattle.prop_check.specs.Tables.{place_by}
use Rattle.prop_check.proofs.scope.Scope.of.Goals as goal

pub invariant_of-result : goal.invariant_of-result
invariant_of-result c =
    let same : file_of c.file-file.result.now ≡ c.in_ok-names.names.value.file = c.file-file.ensures.tree ∙ sym (ap (λ (k : Checked). k.file) (c.in_ok-names.ensures.ok ∙ c.in_ok-of.ensures)) in
    record {
      labels =
          c.in_ok-labels.ensures
          ∙ ap (λ ls. is_among (given_labels ++ map (λ l. l.name) (map label_of ls))) c.as_slice.ensures
          ∙ ap (λ (f : File). is_among (given_labels ++ map (λ l. l.name) f.labels)) same;
      structures =
          λ n.
          c.in_ok-structures.ensures n
          ∙ ap (λ rs. place_by (map rewards_of rs) n) c.as_slice-2.ensures
          ∙ ap (λ (f : File). place_by f.rewards n) same;
    }
