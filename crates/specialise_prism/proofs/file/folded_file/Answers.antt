use Rattle.std.specs.Prelude.{map}
use Rattle.std.proofs.Common.{◌∙◌, ap, refl, sym}
use Rattle.prism_tree.specs.Syntax.{const_of, formula_of, label_of, module_of, rewards_of, var_of}
use Rattle.prism_rewriter.specs.Rewritten.{rewritten_label, rewritten_rewards, rewritten_var}
use Rattle.op_trees.proofs.Made.{both_made}
use Rattle.specialise_prism.specs.Specialised.{folding_by, specialised_const, specialised_module}
use Rattle.constant_folding.specs.Tables.{given_in, known_in}
use Rattle.prism_flat.proofs.Contents.{same_file}
use Rattle.process_core.specs.Zip.{zipped}
use Rattle.specialise_prism.proofs.file.folded_file.Goals as goal

pub returns : goal.returns
returns c =
    let w = folding_by (known_in c.args.table.now) in
    let given = given_in c.args.table.now in
    let outer = both_made _ _ _ _ _ c.together-outer.ensures.ok c.in_ok-constants.ensures.ok.0 in
    let inner = both_made _ _ _ _ _ c.together-inner.ensures.ok c.in_ok-constants.ensures.ok.1 in
    let values = both_made _ _ _ _ _ c.together-values.ensures.ok outer.0 in
    let marks = both_made _ _ _ _ _ c.together-marks.ensures.ok outer.1 in
    same_file _ _ _ _ _ _ _ _ _ _ _ _ _ _ _ _
    (zipped const_of (specialised_const given (known_in c.args.table.now)) c.as_slice.result.now _ c.in_ok-constants.constants c.as_slice.ensures (rw values.0 at c.all_folded-constants.ensures))
    (zipped var_of (rewritten_var w) c.as_slice-2.result.now _ c.in_ok-constants.globals c.as_slice-2.ensures (rw values.1 at c.all_folded-globals.ensures))
    (ap (map formula_of) (c.new.ensures ∙ sym c.requires))
    ((rw inner.0 at c.folded_modules-modules.ensures) ∙ ap (λ ms. map (specialised_module (known_in c.args.table.now)) (map module_of ms)) c.as_slice-3.ensures)
    (zipped label_of (rewritten_label w) c.as_slice-4.result.now _ c.in_ok-constants.labels c.as_slice-4.ensures (rw marks.0 at c.all_folded-labels.ensures))
    (zipped rewards_of (rewritten_rewards w) c.as_slice-5.result.now _ c.in_ok-constants.rewards c.as_slice-5.ensures (rw marks.1 at c.all_folded-rewards.ensures))
    (rw inner.1 at c.optional-init.ensures)
    refl
