use Rattle.std.specs.Prelude.{◌≡◌, ℕ, List, map, drop}
use Rattle.std.specs.Option.{option_map, option_or as or_else}
use Rattle.jani_tree.specs.Syntax.{const_of}
use Rattle.jani_check.specs.Things.{const_thing}
use Rattle.jani_check.specs.Scopes.{const_in}
use Rattle.name_rules.specs.Names.{under}
use Rattle.jani_check.proofs.things.add_constants.Given as goal

abbrev pub invariant-loop-c : goal.invariant-loop-c
invariant-loop-c l = (x : List ℕ) →
    or_else (under l.table x) (option_map const_thing (const_in (map const_of (drop l.c-index l.constants)) x))
    ≡ or_else (under l.initial.table x) (option_map const_thing (const_in (map const_of l.constants) x))
