use Rattle.std.proofs.Common.{◌≡◌, map, take}
use Rattle.name_table.specs.Gathered.{told}
use Rattle.name_table.specs.PrismAsks.{location_ask}
use Rattle.name_table.proofs.prism_asking.ask_locations.Given as goal

abbrev pub invariant-loop-e : goal.invariant-loop-e
invariant-loop-e l = l.table ≡ told l.initial.table (map location_ask (map (λ e. e.name) (take l._e-index l.elements)))
