use Rattle.jani_tree.specs.Syntax.{write_of}
use Rattle.constant_folding.specs.Tables.{known_in}
use Rattle.specialise_jani.specs.Specialised.{folded_write}
use Rattle.process_core.specs.Zip.{zipped}
use Rattle.specialise_jani.proofs.Steps.{same_destination}
use Rattle.specialise_jani.proofs.parts.JaniDestinationFolded.folded.Goals as goal

pub returns : goal.returns
returns c =
    let both = c.in_ok-location.ensures.ok in
    let inner = rw both.1 at c.together-values.ensures.ok in
    same_destination (rw both.0 at c.copy_name.ensures) (rw inner.0 at c.optional.ensures)
    (zipped write_of (folded_write (known_in c.args.table.now)) c.as_slice.result.now _ c.in_ok-location.writes c.as_slice.ensures (rw inner.1 at c.all_folded-writes.ensures))
