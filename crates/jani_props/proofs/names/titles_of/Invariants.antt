use Rattle.std.proofs.Common.{◌≡◌, take, map}
use Rattle.name_rules.specs.Names.{named_by}
use Rattle.jani_props.specs.Faults.{titles}
use Rattle.jani_props.specs.Syntax.{written_of}
use Rattle.jani_props.proofs.names.titles_of.Given as goal

abbrev pub invariant-loop-p : goal.invariant-loop-p
invariant-loop-p l = map named_by l.list.items ≡ titles (map written_of (take l.p-index l.written))
