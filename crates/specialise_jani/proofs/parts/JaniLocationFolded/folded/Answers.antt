use Rattle.std.proofs.Common.{ap₂}
use Rattle.jani_tree.specs.Syntax.{Location, write_of}
use Rattle.constant_folding.specs.Tables.{known_in}
use Rattle.specialise_jani.specs.Specialised.{folded_write}
use Rattle.process_core.specs.Zip.{zipped}
use Rattle.specialise_jani.proofs.parts.JaniLocationFolded.folded.Goals as goal

pub returns : goal.returns
returns c =
    let both = c.in_ok-name.ensures.ok in
    ap₂ {C = Location} (λ n ws. record { name = n; values = ws }) (rw both.0 at c.copy_name.ensures)
    (zipped write_of (folded_write (known_in c.args.table.now)) c.as_slice.result.now _ c.in_ok-name.values c.as_slice.ensures (rw both.1 at c.all_folded-values.ensures))
