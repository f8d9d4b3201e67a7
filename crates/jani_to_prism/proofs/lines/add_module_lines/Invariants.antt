use Rattle.std.proofs.Common.{◌≡◌, ◌++◌, map, drop}
use Rattle.std.specs.Prelude.{Some, codes}
use Rattle.jani_tree.specs.declared.syntax.JaniElement.{JaniElement}
use Rattle.prism_targets.specs.Lines.{name_lines}
use Rattle.jani_to_prism.proofs.lines.add_module_lines.Given as goal

abbrev pub invariant-loop-i : goal.invariant-loop-i
invariant-loop-i l =
    l.lines ++ name_lines (codes "module") (drop l.i l.entries) (map (λ (k : JaniElement). Some k.name.name) (drop l.i l.elements))
    ≡ l.initial.lines ++ name_lines (codes "module") l.entries (map (λ (k : JaniElement). Some k.name.name) l.elements)
