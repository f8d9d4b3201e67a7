use Rattle.process_core.specs.Equal.{equal_states, equal_states_is}
use Rattle.process_core.proofs.MergedOnce.{merged_sums, merged_once, merged_each}
use Rattle.process_core.proofs.laws.merging_laws.Goals as goal

pub returns : goal.returns
returns c = record {
  sums = merged_sums equal_states equal_states_is;
  once = merged_once equal_states equal_states_is;
  each = merged_each equal_states;
}
