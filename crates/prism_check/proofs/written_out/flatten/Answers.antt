use Rattle.std.specs.Prelude.{[]}
use Rattle.std.proofs.Common.{◌∙◌, ap, subst, sym}
use Rattle.prism_tree.specs.Syntax.{File, file_of}
use Rattle.prism_flat.specs.Flat.{flat}
use Rattle.prism_flat.specs.Same.{bare_file}
use Rattle.prism_flat.specs.Kept.{SameThings}
use Rattle.prism_check.proofs.CleanFile.{flat_is_checked}
use Rattle.prism_check.proofs.Faults.{checked_alike}
use Rattle.prism_check.proofs.written_out.flatten.Goals as goal

pub invariant_of-result : goal.invariant_of-result
invariant_of-result c = record {
  checked =
      checked_alike (flat c.args.checked.now.file) (file_of c.in_ok-file.file) (sym (c.in_ok-file.ensures.tree ∙ ap (λ (f : File). bare_file (flat f)) c.file.ensures.tree)) []
      (flat_is_checked c.args.checked.now c.file.ensures.checked);
  form = c.in_ok-file.ensures.form;
}

pub returns-clause-tree : goal.returns-clause-tree
returns-clause-tree c = c.in_ok-file.ensures.tree ∙ ap (λ (f : File). bare_file (flat f)) c.file.ensures.tree

pub returns-clause-things : goal.returns-clause-things
returns-clause-things c = subst (λ (f : File). SameThings f (file_of c.in_ok-file.file)) c.file.ensures.tree c.in_ok-file.ensures.things
