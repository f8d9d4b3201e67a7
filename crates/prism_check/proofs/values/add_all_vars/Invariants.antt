use Rattle.std.specs.Prelude.{◌≡◌, ◌++◌, map, drop}
use Rattle.std.specs.List.{flat_map}
use Rattle.prism_tree.specs.Syntax.{module_of}
use Rattle.prism_check.specs.Tables.{module_under, module_vars_by}
use Rattle.name_rules.specs.Names.{named_by}
use Rattle.prism_check.proofs.values.add_all_vars.Given as goal

abbrev pub invariant-loop-entry : goal.invariant-loop-entry
invariant-loop-entry l =
    map named_by l.list.items ++ flat_map (module_vars_by (module_under l.modules)) (map module_of (drop l.entry-index l.all))
    ≡ map named_by l.initial.list.items ++ flat_map (module_vars_by (module_under l.modules)) (map module_of l.all)
