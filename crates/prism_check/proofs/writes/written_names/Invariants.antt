use Rattle.std.specs.Prelude.{◌≡◌, map, take}
use Rattle.prism_check.specs.Typing.{called_by, moved_name, read_in}
use Rattle.name_rules.specs.Names.{named_by}
use Rattle.prism_check.proofs.writes.written_names.Given as goal

abbrev pub invariant-loop-write : goal.invariant-loop-write
invariant-loop-write l = map named_by l.list.items ≡ map (λ w. moved_name l.place (called_by (read_in l.names) w.name)) (take l.write-index l.writes)
