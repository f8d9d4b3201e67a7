use Rattle.jani_tree.proofs.Types.{no_range}
use Rattle.jani_tree.proofs.objects.constant_type.Goals as goal

pub unreachable-requires-in-Object : goal.unreachable-requires-in-Object
unreachable-requires-in-Object c = no_range _ _ _ _ c.in-Object.is c.requires
