use Rattle.prism_names.specs.Laws.{ordered_formulas}
use Rattle.prism_names.specs.Places.{places_order}
use Rattle.prism_names.proofs.order_law.Goals as goal

pub returns : goal.returns
returns c = record { formulas = ordered_formulas; places = places_order }
