use Rattle.jani_tree.specs.Syntax.{destination_of}
use Rattle.constant_folding.specs.Tables.{known_in}
use Rattle.specialise_jani.specs.Specialised.{folded_destination}
use Rattle.process_core.specs.Zip.{zipped}
use Rattle.specialise_jani.proofs.Steps.{same_edge}
use Rattle.specialise_jani.proofs.parts.JaniEdgeFolded.folded.Goals as goal

pub returns : goal.returns
returns c =
    let both = c.in_ok-location.ensures.ok in
    let names = rw both.0 at c.together-names.ensures.ok in
    let values = rw both.1 at c.together-values.ensures.ok in
    same_edge (rw names.0 at c.copy_name.ensures) (rw names.1 at c.copy_action.ensures) (rw values.0 at c.optional.ensures)
    (zipped destination_of (folded_destination (known_in c.args.table.now)) c.as_slice.result.now _ c.in_ok-location.destinations c.as_slice.ensures
    (rw values.1 at c.all_folded-destinations.ensures))
