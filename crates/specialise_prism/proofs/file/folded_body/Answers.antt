use Rattle.std.proofs.Common.{◌∙◌, ap}
use Rattle.bridge_io.specs.declared.reason.Named.{Named}
use Rattle.prism_tree.specs.Syntax.{command_of, var_of}
use Rattle.prism_rewriter.specs.Rewritten.{rewritten_command, rewritten_var}
use Rattle.specialise_prism.specs.Specialised.{folding_by}
use Rattle.constant_folding.specs.Tables.{known_in}
use Rattle.prism_flat.proofs.Contents.{same_body}
use Rattle.process_core.specs.Zip.{zipped}
use Rattle.specialise_prism.proofs.file.folded_body.Goals as goal

pub returns : goal.returns
returns c =
    let both = c.in_ok-name.ensures.ok in
    let inner = rw both.1 at c.together-contents.ensures.ok in
    same_body _ _ _ _ _ _
    ((rw both.0 at c.named-name.ensures) ∙ ap {B = Named} (λ x. record { name = x; at = c.args.source.now.name.at }) c.as_str.ensures)
    (zipped var_of (rewritten_var (folding_by (known_in c.args.table.now))) c.as_slice.result.now _ c.in_ok-name.vars c.as_slice.ensures (rw inner.0 at c.all_folded-vars.ensures))
    (zipped command_of (rewritten_command (folding_by (known_in c.args.table.now))) c.as_slice-2.result.now _ c.in_ok-name.commands c.as_slice-2.ensures (rw inner.1 at c.all_folded.ensures))
