use Rattle.std.proofs.Common.{◌≡◌, map, take}
use Rattle.name_table.specs.Gathered.{told}
use Rattle.jani_to_prism.specs.Asks.{vector_in, vector_ask}
use Rattle.jani_to_prism.proofs.actions.ask_actions.Given as goal

abbrev pub invariant-loop-t : goal.invariant-loop-t
invariant-loop-t l = l.table ≡ told l.initial.table (map vector_ask (map vector_in (take l.t-index l.targets)))
