use Rattle.std.proofs.Common.{◌≡◌, ℕ, List, map, take}
use Rattle.name_rules.specs.Names.{has_name}
use Rattle.name_table.specs.Gathered.{body_in}
use Rattle.jani_translation.specs.Translated.{has_command}
use Rattle.jani_edges.proofs.partners.module_actions.Given as goal

abbrev pub invariant-loop-m : goal.invariant-loop-m
invariant-loop-m l = (x : List ℕ) → map (λ t. has_name t x) l.all.items ≡ map (has_command x) (map body_in (take l.m-index l.modules))
