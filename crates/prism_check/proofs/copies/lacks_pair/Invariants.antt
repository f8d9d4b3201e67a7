use Rattle.std.specs.Prelude.{◌≡◌, map, drop}
use Rattle.prism_tree.specs.Syntax.{var_of}
use Rattle.prism_check.specs.Tables.{lacks_pair_by, new_name}
use Rattle.prism_check.proofs.copies.lacks_pair.Given as goal

abbrev pub invariant-loop-var : goal.invariant-loop-var
invariant-loop-var l =
    lacks_pair_by (new_name l.renaming) (map var_of (drop l.var-index l.vars)) ≡ lacks_pair_by (new_name l.renaming) (map var_of l.vars)
