use Rattle.std.proofs.Common.{◌∙◌}
use Rattle.specialise_prism.proofs.Finished.{same_action}
use Rattle.prism_tree.specs.Syntax.{branch_of}
use Rattle.prism_rewriter.specs.Rewritten.{rewritten_branch}
use Rattle.specialise_prism.specs.Specialised.{folding_by}
use Rattle.constant_folding.specs.Tables.{known_in}
use Rattle.process_core.specs.Zip.{zipped}
use Rattle.prism_rewriter.proofs.Steps.{same_command}
use Rattle.specialise_prism.proofs.parts.PrismCommandFolded.folded.Goals as goal

pub returns : goal.returns
returns c =
    let both = c.in_ok-action.ensures.ok in
    let inner = rw both.1 at c.together.ensures.ok in
    same_command _ _ _ _ _ _ ((rw both.0 at c.copy_of_name-action.ensures) ∙ same_action c.args.self.now.action) (rw inner.0 at c.fold-guard.ensures)
    (zipped branch_of (rewritten_branch (folding_by (known_in c.args.table.now))) c.as_slice.result.now _ c.in_ok-action.branches c.as_slice.ensures (rw inner.1 at c.all_folded-branches.ensures))
