use Rattle.std.proofs.Common.{◌≡◌, ◌++◌, map, drop}
use Rattle.std.specs.Prelude.{Some, codes}
use Rattle.jani_tree.specs.Syntax.{Const, const_of}
use Rattle.prism_targets.specs.Lines.{name_lines}
use Rattle.jani_to_prism.proofs.lines.add_constant_lines.Given as goal

abbrev pub invariant-loop-i : goal.invariant-loop-i
invariant-loop-i l =
    l.lines ++ name_lines (codes "constant") (drop l.i l.entries) (map (λ (k : Const). Some k.name.name) (map const_of (drop l.i l.constants)))
    ≡ l.initial.lines ++ name_lines (codes "constant") l.entries (map (λ (k : Const). Some k.name.name) (map const_of l.constants))
