use Rattle.std.specs.Prelude.{◌≡◌, ℕ, List, map, drop}
use Rattle.std.specs.Option.{option_map, option_or as or_else}
use Rattle.jani_tree.specs.Syntax.{var_of}
use Rattle.jani_check.specs.Things.{var_called, var_thing}
use Rattle.name_rules.specs.Names.{under}
use Rattle.jani_check.proofs.things.add_vars.Given as goal

abbrev pub invariant-loop-var : goal.invariant-loop-var
invariant-loop-var l = (x : List ℕ) →
    or_else (under l.table x) (option_map var_thing (var_called (map var_of (drop l.var-index l.vars)) x))
    ≡ or_else (under l.initial.table x) (option_map var_thing (var_called (map var_of l.vars) x))
