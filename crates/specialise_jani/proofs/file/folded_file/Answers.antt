use Rattle.std.proofs.Common.{refl}
use Rattle.jani_tree.specs.Syntax.{automaton_of, const_of, element_of, var_of, vector_of}
use Rattle.op_trees.proofs.Made.{both_made}
use Rattle.constant_folding.specs.Tables.{given_in, known_in}
use Rattle.specialise_jani.specs.Specialised.{folded_automaton, folded_var, specialised_const}
use Rattle.process_core.specs.Zip.{zipped}
use Rattle.specialise_jani.proofs.Steps.{copied_all, same_file, zipped_same}
use Rattle.specialise_jani.proofs.file.folded_file.Goals as goal

pub returns : goal.returns
returns c =
    let K = known_in c.args.table.now in
    let given = given_in c.args.table.now in
    let outer = both_made _ _ _ _ _ c.together-outer.ensures.ok c.in_ok-actions.ensures.ok.0 in
    let inner = both_made _ _ _ _ _ c.together-inner.ensures.ok c.in_ok-actions.ensures.ok.1 in
    let names = both_made _ _ _ _ _ c.together-names.ensures.ok outer.0 in
    let values = both_made _ _ _ _ _ c.together-values.ensures.ok outer.1 in
    let edges = both_made _ _ _ _ _ c.together-edges.ensures.ok inner.0 in
    let rest = both_made _ _ _ _ _ c.together-rest.ensures.ok inner.1 in
    same_file
    (copied_all c.as_slice.result.now _ c.in_ok-actions.actions c.as_slice.ensures (rw names.0 at c.all_folded-actions.ensures))
    (zipped const_of (specialised_const given K) c.as_slice-3.result.now _ c.in_ok-actions.constants c.as_slice-3.ensures (rw values.0 at c.all_folded-constants.ensures))
    (zipped var_of (folded_var K) c.as_slice-4.result.now _ c.in_ok-actions.variables c.as_slice-4.ensures (rw values.1 at c.all_folded-variables.ensures))
    (rw rest.0 at c.restriction-restrict.ensures)
    (zipped automaton_of (folded_automaton K) c.as_slice-5.result.now _ c.in_ok-actions.automata c.as_slice-5.ensures (rw edges.0 at c.all_folded-automata.ensures))
    (zipped_same element_of c.as_slice-2.result.now _ c.in_ok-actions.elements c.as_slice-2.ensures (rw names.1 at c.all_folded-elements.ensures))
    refl
    (zipped_same vector_of c.as_slice-6.result.now _ c.in_ok-actions.vectors c.as_slice-6.ensures (rw edges.1 at c.all_folded-vectors.ensures))
    (rw rest.1 at c.copy_json.ensures)
