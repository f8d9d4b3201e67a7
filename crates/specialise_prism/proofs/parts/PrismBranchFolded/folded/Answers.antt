use Rattle.std.proofs.Common.{ap₂}
use Rattle.prism_tree.specs.Syntax.{Branch, write_of}
use Rattle.prism_rewriter.specs.Rewritten.{rewritten_write}
use Rattle.specialise_prism.specs.Specialised.{folding_by}
use Rattle.constant_folding.specs.Tables.{known_in}
use Rattle.process_core.specs.Zip.{zipped}
use Rattle.specialise_prism.proofs.parts.PrismBranchFolded.folded.Goals as goal

pub returns : goal.returns
returns c =
    let both = c.in_ok-weight.ensures.ok in
    ap₂ {C = Branch} (λ p ws. record { weight = p; writes = ws }) (rw both.0 at c.optional.ensures)
    (zipped write_of (rewritten_write (folding_by (known_in c.args.table.now))) c.as_slice.result.now _ c.in_ok-weight.writes c.as_slice.ensures (rw both.1 at c.all_folded-writes.ensures))
