use Rattle.std.proofs.Common.{refl}
use Rattle.std.specs.Option.{option_copied, option_map}
use Rattle.jani_table.specs.Node.{node}
use Rattle.jani_table.proofs.Values.{found}
use Rattle.jani_props.proofs.Cleaned.{part_there}
use Rattle.jani_props.proofs.access.required.Goals as goal

pub unreachable-requires : goal.unreachable-requires
unreachable-requires c = found (λ r. option_map node (option_copied r)) _ _ refl c.optional.ensures.member c.in-None.is (part_there _ _ _ c.requires.needed c.requires.clean)
