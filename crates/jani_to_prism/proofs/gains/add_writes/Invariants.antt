use Rattle.std.proofs.Common.{◌≡◌, ◌++◌, ℕ, map, take}
use Rattle.std.specs.List.{flat_map}
use Rattle.process_core.specs.Instance.{only_if}
use Rattle.jani_tree.specs.Syntax.{write_of}
use Rattle.jani_meaning.specs.Elements.{structure_number}
use Rattle.prism_targets.specs.Elements.{is_at}
use Rattle.gathering.specs.Lists.{list_for}
use Rattle.prism_modules.specs.Code.{file_in}
use Rattle.jani_to_prism.specs.Gains.{gain_of, gain_with}
use Rattle.jani_to_prism.proofs.gains.add_writes.Given as goal

abbrev pub invariant-loop-w : goal.invariant-loop-w
invariant-loop-w l =
    (j : ℕ) → map gain_of (list_for l.all j)
    ≡ map gain_of (list_for l.initial.all j)
    ++ flat_map (λ w. only_if (is_at j (structure_number (file_in l.names) l.element w.target.name)) (gain_with l.target l.element w)) (map write_of (take l.w-index l.writes))
