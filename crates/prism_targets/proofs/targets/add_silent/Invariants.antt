use Rattle.std.proofs.Common.{◌≡◌, ◌+◌, ◌++◌, map, take, vec_len}
use Rattle.prism_targets.specs.Made.{made_alone}
use Rattle.prism_targets.specs.Code.{target_view}
use Rattle.prism_targets.proofs.targets.add_silent.Given as goal

abbrev pub invariant-loop-edge : goal.invariant-loop-edge
invariant-loop-edge l = record {
  targets : map target_view l.all.items ≡ map target_view l.initial.all.items ++ made_alone l.element (take l.edge-index l.edges);
  count : vec_len l.all ≡ vec_len l.initial.all + l.edge-index;
}
