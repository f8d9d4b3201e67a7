use Rattle.jani_tree.specs.Syntax.{edge_of, location_of, var_of}
use Rattle.constant_folding.specs.Tables.{known_in}
use Rattle.specialise_jani.specs.Specialised.{folded_edge, folded_location, folded_var}
use Rattle.process_core.specs.Zip.{zipped}
use Rattle.specialise_jani.proofs.Steps.{copied_all, same_automaton}
use Rattle.specialise_jani.proofs.parts.JaniAutomatonFolded.folded.Goals as goal

pub returns : goal.returns
returns c =
    let K = known_in c.args.table.now in
    let both = c.in_ok-name.ensures.ok in
    let names = rw both.0 at c.together-names.ensures.ok in
    let steps = rw both.1 at c.together-steps.ensures.ok in
    let states = rw steps.0 at c.together-states.ensures.ok in
    same_automaton (rw names.0 at c.copy_name.ensures)
    (zipped var_of (folded_var K) c.as_slice-2.result.now _ c.in_ok-name.variables c.as_slice-2.ensures (rw states.0 at c.all_folded.ensures))
    (zipped location_of (folded_location K) c.as_slice.result.now _ c.in_ok-name.locations c.as_slice.ensures (rw states.1 at c.all_folded-locations.ensures))
    (copied_all c.as_slice-4.result.now _ c.in_ok-name.initial c.as_slice-4.ensures (rw names.1 at c.all_folded-initial.ensures))
    (zipped edge_of (folded_edge K) c.as_slice-3.result.now _ c.in_ok-name.edges c.as_slice-3.ensures (rw steps.1 at c.all_folded-2.ensures))
