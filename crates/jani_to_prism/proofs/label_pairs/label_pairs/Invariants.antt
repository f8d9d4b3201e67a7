use Rattle.std.proofs.Common.{◌≡◌, ◌++◌, drop}
use Rattle.jani_to_prism.specs.MapParts.{pairs_with}
use Rattle.jani_to_prism.proofs.label_pairs.label_pairs.Given as goal

abbrev pub invariant-loop-i : goal.invariant-loop-i
invariant-loop-i l = l.all ++ pairs_with (drop l.i l.entries) (drop l.i l.made) ≡ pairs_with l.entries l.made
