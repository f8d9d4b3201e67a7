use Rattle.std.proofs.Common.{◌∙◌, ap, map}
use Rattle.process_core.specs.Product.{map-map}
use Rattle.instance_start.specs.Columns.{variable_of}
use Rattle.prism_instance.specs.Found.{named_variable}
use Rattle.prism_instance.proofs.variables.variables_under.Goals as goal

pub returns : goal.returns
returns c =
    ap (map variable_of) (c.in_ok-all.ensures ∙ ap (map named_variable) c.as_slice.ensures.value)
    ∙ map-map variable_of named_variable c.in_ok-found.found.items
    ∙ c.in_ok-found.ensures
