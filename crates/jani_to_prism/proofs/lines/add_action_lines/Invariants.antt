use Rattle.std.proofs.Common.{◌≡◌, ◌++◌, map, drop}
use Rattle.std.specs.Prelude.{codes}
use Rattle.prism_targets.specs.Lines.{name_lines}
use Rattle.jani_to_prism.specs.LineParts.{old_of}
use Rattle.jani_to_prism.proofs.lines.add_action_lines.Given as goal

abbrev pub invariant-loop-i : goal.invariant-loop-i
invariant-loop-i l =
    l.lines ++ name_lines (codes "action") (drop l.i l.entries) (map old_of (drop l.i l.made))
    ≡ l.initial.lines ++ name_lines (codes "action") l.entries (map old_of l.made)
