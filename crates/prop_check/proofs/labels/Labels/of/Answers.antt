use Rattle.std.specs.Prelude.{◌++◌, ◌||◌, bytes_eq, List, ℕ, map}
use Rattle.std.specs.List.{list_any}
use Rattle.std.proofs.Common.{◌∙◌, sym, ap}
use Rattle.std.proofs.Math.Path.{fun_ext}
use Rattle.std.proofs.lemmas.List.Folds.{list_any-append}
use Rattle.std.proofs.lemmas.Simd.{map-map}
use Rattle.op_trees.specs.Names.{is_called}
use Rattle.name_rules.specs.Names.{is_among}
use Rattle.name_rules.proofs.Maps.{at, none_in, one_in}
use Rattle.prism_tree.specs.declared.syntax.PrismLabel.{PrismLabel}
use Rattle.prism_tree.specs.Syntax.{label_of}
use Rattle.prism_check.specs.NameFaults.{given_labels}
use Rattle.prop_check.specs.Tables.{has_label}
use Rattle.prop_check.proofs.labels.Labels.of.Goals as goal

pub loop-label-init : goal.loop-label-init
loop-label-init c =
    let names = map (λ (k : PrismLabel). (label_of k).name) c.args.all.now in
    fun_ext (λ x. ap (λ b. b || list_any (is_called x) names) (at c.in_ok-labels.ensures x) ∙ sym (list_any-append (is_called x) given_labels names))

pub loop-label-preserved : goal.loop-label-preserved
loop-label-preserved c =
    let label = c.label-item.result in
    one_in (λ (k : PrismLabel). (label_of k).name) (λ n x. is_called x n) (has_label c.loop-label.labels) (has_label c.add.new.self) (label_of label).name c.args.all.now c.loop-label.label-index label _
    c.loop-label-test.true (ap (λ (k : PrismLabel). (label_of k).name) c.label-item.is)
    (c.in_ok-add.ensures ∙ ap (λ (n : List ℕ). λ x. bytes_eq n x || has_label c.loop-label.labels x) (c.as_bytes.ensures.value ∙ c.as_str.ensures))
    c.loop-label.invariant

pub returns : goal.returns
returns c =
    none_in (λ (k : PrismLabel). (label_of k).name) (λ n x. is_called x n) (has_label c.loop-label.labels) c.args.all.now c.loop-label.label-index _ c.loop-label-test.false c.loop-label.invariant
    ∙ ap (λ ns. is_among (given_labels ++ ns)) (sym (map-map (λ l. l.name) label_of c.args.all.now))
