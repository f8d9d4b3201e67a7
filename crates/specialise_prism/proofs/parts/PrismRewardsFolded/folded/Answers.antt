use Rattle.std.proofs.Common.{ap₂}
use Rattle.prism_tree.specs.Syntax.{Rewards, item_of}
use Rattle.prism_rewriter.specs.Rewritten.{rewritten_item}
use Rattle.specialise_prism.specs.Specialised.{folding_by}
use Rattle.constant_folding.specs.Tables.{known_in}
use Rattle.process_core.specs.Zip.{zipped}
use Rattle.specialise_prism.proofs.parts.PrismRewardsFolded.folded.Goals as goal

pub returns : goal.returns
returns c =
    let both = c.in_ok-name.ensures.ok in
    ap₂ {C = Rewards} (λ n is. record { name = n; items = is }) (rw both.0 at c.copy_of_name.ensures)
    (zipped item_of (rewritten_item (folding_by (known_in c.args.table.now))) c.as_slice.result.now _ c.in_ok-name.items c.as_slice.ensures (rw both.1 at c.all_folded-items.ensures))
