use Rattle.std.proofs.Common.{◌≡◌, ◌++◌, map, drop}
use Rattle.std.specs.List.{filter}
use Rattle.jani_tree.specs.Syntax.{var_of}
use Rattle.jani_meaning.specs.Elements.{owned_by}
use Rattle.name_table.specs.JaniParts.{owned_of, owner_of, is_wanted}
use Rattle.name_table.proofs.jani_parts.add_chosen.Given as goal

abbrev pub invariant-loop-var : goal.invariant-loop-var
invariant-loop-var l =
    map owned_of l.all.items ++ filter (is_wanted l.wanted) (owned_by (owner_of l.owner) (map var_of (drop l.var-index l.vars)))
    ≡ map owned_of l.initial.all.items ++ filter (is_wanted l.wanted) (owned_by (owner_of l.owner) (map var_of l.vars))
