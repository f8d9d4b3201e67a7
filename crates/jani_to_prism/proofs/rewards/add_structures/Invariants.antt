use Rattle.std.proofs.Common.{◌≡◌, ◌++◌, ◌∷◌, [], map, drop}
use Rattle.process_core.specs.Instance.{numbered}
use Rattle.prism_tree.specs.Syntax as prism
use Rattle.name_table.specs.JaniParts.{owned_of}
use Rattle.name_table.specs.PrismAsks.{name_at}
use Rattle.prism_targets.specs.Marks.{structure}
use Rattle.prism_modules.specs.Code.{file_in, names_in}
use Rattle.jani_to_prism.proofs.rewards.add_structures.Given as goal

abbrev pub invariant-loop-j : goal.invariant-loop-j
invariant-loop-j l =
    map prism.rewards_of l.all
    ++ numbered (λ j o. structure (file_in l.names) (names_in l.names) j o (name_at (names_in l.names).rewards j) ∷ []) l.j (map owned_of (drop l.j l.vars))
    ≡ map prism.rewards_of l.initial.all ++ numbered (λ j o. structure (file_in l.names) (names_in l.names) j o (name_at (names_in l.names).rewards j) ∷ []) 0 (map owned_of l.vars)
