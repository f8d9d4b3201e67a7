use Rattle.std.specs.Prelude.{◌≡◌, [], map, take}
use Rattle.std.specs.List.{flat_map}
use Rattle.prism_tree.specs.Syntax.{module_of}
use Rattle.name_rules.specs.Names.{has_name}
use Rattle.prism_check.specs.Known.{own_unknown}
use Rattle.prism_check.proofs.scope.contents_known.Given as goal

abbrev pub invariant-loop-entry : goal.invariant-loop-entry
invariant-loop-entry l = flat_map (own_unknown (has_name l.known)) (map module_of (take l.entry-index l.all)) ≡ []
