use Rattle.std.proofs.Common.{◌∙◌, ap, ℕ, List}
use Rattle.std.specs.Prelude.{slice_get}
use Rattle.name_rules.specs.declared.map.NameMap.{NameMap}
use Rattle.name_rules.proofs.Maps.{at}
use Rattle.edge_tables.specs.Places.{under_some}
use Rattle.edge_tables.proofs.Positions.{grown}
use Rattle.edge_tables.proofs.places.Places.grow.Goals as goal

pub grow-preserved : goal.grow-preserved
grow-preserved c = record {
  own = λ k x.
      ap (λ (ms : List (NameMap ℕ)). under_some (slice_get ms k) x) c.in_ok-push.ensures.items
      ∙ grown c.grow.self.own.items c.new.result k x (at c.new.ensures x)
      ∙ c.grow.invariant.own k x;
  global = c.grow.invariant.global;
}
