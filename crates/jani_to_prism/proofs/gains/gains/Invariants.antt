use Rattle.std.proofs.Common.{◌≡◌, ◌++◌, ℕ, map, drop}
use Rattle.process_core.specs.Instance.{numbered}
use Rattle.prism_targets.specs.Serving.{target_in}
use Rattle.gathering.specs.Lists.{list_for}
use Rattle.prism_modules.specs.Code.{file_in}
use Rattle.jani_to_prism.specs.Gains.{gain_of, gains_of}
use Rattle.jani_to_prism.proofs.gains.gains.Given as goal

abbrev pub invariant-loop-i : goal.invariant-loop-i
invariant-loop-i l =
    (j : ℕ) → map gain_of (list_for l.all j) ++ numbered (λ i t. gains_of (file_in l.names) j i t.maker) l.i (map (target_in (file_in l.names)) (drop l.i l.made))
    ≡ numbered (λ i t. gains_of (file_in l.names) j i t.maker) 0 (map (target_in (file_in l.names)) l.made)
