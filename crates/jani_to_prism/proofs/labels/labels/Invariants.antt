use Rattle.std.proofs.Common.{◌≡◌, ◌++◌, map, drop}
use Rattle.std.specs.List.{zip}
use Rattle.prism_tree.specs.Syntax as prism
use Rattle.name_table.specs.JaniParts.{owned_of}
use Rattle.prism_targets.specs.Marks.{label}
use Rattle.prism_modules.specs.Code.{file_in, names_in}
use Rattle.jani_to_prism.proofs.labels.labels.Given as goal

abbrev pub invariant-loop-i : goal.invariant-loop-i
invariant-loop-i l =
    map prism.label_of l.all
    ++ map (λ p. label (file_in l.names) (names_in l.names) p.0 p.1.name) (zip (map owned_of (drop l.i l.vars)) (drop l.i l.names.entries.labels.now))
    ≡ map (λ p. label (file_in l.names) (names_in l.names) p.0 p.1.name) (zip (map owned_of l.vars) l.names.entries.labels.now)
