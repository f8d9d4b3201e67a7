use Rattle.jani_translation.proofs.OneForOne.{one_automaton_each, one_element_each, modules_come_first, one_edge_each, constant_types, constant_values, variable_kinds, variable_starts, one_transient_each}
use Rattle.jani_translation.proofs.laws.one_for_one_law.Goals as goal

pub returns : goal.returns
returns c = record {
  automata = one_automaton_each;
  elements = one_element_each;
  modules = modules_come_first;
  edges = one_edge_each;
  types = constant_types;
  values = constant_values;
  kinds = variable_kinds;
  starts = variable_starts;
  transients = one_transient_each;
}
