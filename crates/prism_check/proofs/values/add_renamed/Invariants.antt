use Rattle.std.specs.Prelude.{◌≡◌, ◌++◌, map, drop}
use Rattle.prism_tree.specs.Syntax.{var_of}
use Rattle.prism_check.specs.Tables.{new_name, renamed_by}
use Rattle.name_rules.specs.Names.{named_by}
use Rattle.prism_check.proofs.values.add_renamed.Given as goal

abbrev pub invariant-loop-var : goal.invariant-loop-var
invariant-loop-var l =
    map named_by l.list.items ++ renamed_by (new_name l.renaming) l.at (map var_of (drop l.var-index l.vars))
    ≡ map named_by l.initial.list.items ++ renamed_by (new_name l.renaming) l.at (map var_of l.vars)
