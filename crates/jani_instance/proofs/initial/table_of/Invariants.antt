use Rattle.std.proofs.Common.{◌≡◌, [], map, drop}
use Rattle.std.specs.Prelude.{unwrap_or}
use Rattle.name_rules.specs.Names.{under}
use Rattle.jani_instance.specs.Initial.{table_with}
use Rattle.jani_instance.proofs.initial.table_of.Given as goal

abbrev pub invariant-loop-name : goal.invariant-loop-name
invariant-loop-name l =
    table_with (map (λ n. unwrap_or (under l.by_name n.name) 0) l.names) []
    ≡ table_with (map (λ n. unwrap_or (under l.by_name n.name) 0) (drop l.name-index l.names)) l.table.items
