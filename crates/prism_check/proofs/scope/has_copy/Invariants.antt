use Rattle.std.specs.Prelude.{◌≡◌, Some, map, drop}
use Rattle.std.specs.List.{list_any}
use Rattle.prism_tree.specs.Syntax.{module_of}
use Rattle.prism_check.specs.NameFaults.{is_copy}
use Rattle.prism_check.proofs.scope.has_copy.Given as goal

abbrev pub invariant-loop-entry : goal.invariant-loop-entry
invariant-loop-entry l = list_any (λ m. is_copy (Some m)) (map module_of (drop l.entry-index l.all)) ≡ list_any (λ m. is_copy (Some m)) (map module_of l.all)
