use Rattle.std.proofs.Common.{◌≡◌, map, take}
use Rattle.name_table.specs.Gathered.{told}
use Rattle.name_table.proofs.ask.ask_each.Given as goal

abbrev pub invariant-loop-thing : goal.invariant-loop-thing
invariant-loop-thing g l = l.table ≡ told l.initial.table (map (λ o. (l.class, o)) (map g.T.HasName.called (take l.thing-index l.things)))
