use Rattle.std.specs.Prelude.{◌≡◌, ◌||◌, take}
use Rattle.process_core.specs.Ready.{Name}
use Rattle.name_rules.specs.Names.{has_name, is_among}
use Rattle.edge_tables.proofs.edges.add_names.Given as goal

abbrev pub invariant-loop-a : goal.invariant-loop-a
invariant-loop-a l = (x : Name) → has_name l.names x ≡ (has_name l.initial.names x || is_among (take l.a-index l.actions) x)
