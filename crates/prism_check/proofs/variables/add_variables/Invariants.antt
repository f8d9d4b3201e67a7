use Rattle.std.specs.Prelude.{◌≡◌, ℕ, List, map, drop}
use Rattle.std.specs.Option.{option_or}
use Rattle.prism_tree.specs.Syntax.{var_of}
use Rattle.name_rules.specs.Names.{under}
use Rattle.prism_check.specs.Tables.{new_name}
use Rattle.prism_check.specs.Typing.{owned_in, variables_by}
use Rattle.prism_check.proofs.variables.add_variables.Given as goal

abbrev pub invariant-loop-var : goal.invariant-loop-var
invariant-loop-var l = (x : List ℕ) →
    option_or (under l.table x) (owned_in (variables_by (new_name l.renaming) l.owner (map var_of (drop l.var-index l.vars))) x)
    ≡ option_or (under l.initial.table x) (owned_in (variables_by (new_name l.renaming) l.owner (map var_of l.vars)) x)
