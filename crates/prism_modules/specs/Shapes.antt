-- That what elements serve is told of as many own edges, actions and locations as they have.
use Rattle.std.specs.Prelude.{◌≡◌, List, map}
use Rattle.prism_targets.specs.declared.served.ElementServing.{ElementServing}
use Rattle.prism_targets.specs.Code.{shape_of, shape_served}
use Rattle.module_parts.specs.declared.element.Element.{Element}

abbrev pub FitElements : List ElementServing → List Element → Type 0
FitElements served els = map shape_served served ≡ map shape_of (map (λ el. el.automaton) els)
