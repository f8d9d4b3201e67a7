use Rattle.jani_props.specs.declared.table.PropForm.TheVariants as F
use Rattle.jani_props.specs.Syntax.{written_of}
use Rattle.jani_props.specs.Spelled.{IsWritten}
use Rattle.jani_props.proofs.Lists.{Left}
use Rattle.jani_props.proofs.paths.properties.Given as goal

abbrev pub invariant-items : goal.invariant-items
invariant-items l = Left (λ v x. IsWritten v (written_of x)) F.Property l.values l.x-index l.list.items
