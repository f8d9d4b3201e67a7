use Rattle.std.proofs.Common.{◌≡◌, ◌++◌, map, drop}
use Rattle.name_table.specs.JaniParts.{owned_of}
use Rattle.prism_targets.specs.Lines.{name_lines, called}
use Rattle.jani_to_prism.proofs.lines.add_owned_lines.Given as goal

abbrev pub invariant-loop-i : goal.invariant-loop-i
invariant-loop-i l =
    l.lines ++ name_lines (l.what) (drop l.i l.entries) (map called (map owned_of (drop l.i l.vars)))
    ≡ l.initial.lines ++ name_lines (l.what) l.entries (map called (map owned_of l.vars))
