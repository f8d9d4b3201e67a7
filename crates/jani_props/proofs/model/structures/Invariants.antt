use Rattle.std.proofs.Common.{◌≡◌, ℕ, ◌+◌, ◌≤◌, List, drop, map}
use Rattle.std.specs.Option.{option_map, option_or}
use Rattle.jani_tree.specs.Syntax.{var_of}
use Rattle.name_rules.specs.Names.{under}
use Rattle.jani_props.specs.Faults.{number_among}
use Rattle.jani_props.proofs.model.structures.Given as goal

abbrev pub invariant-loop-var : goal.invariant-loop-var
invariant-loop-var l =
    ((x : List ℕ) → option_or (under l.numbers x) (option_map (λ i. l.count + i) (number_among (map var_of (drop l.var-index l.vars)) x)) ≡ number_among (map var_of l.vars) x) × (l.count ≤ l.var-index)
