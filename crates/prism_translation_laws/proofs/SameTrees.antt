-- Trees that are equal as they are written are seen alike.
use Rattle.std.specs.Prelude.{◌≡◌, true}
use Rattle.op_trees.specs.Seen.{Seen}
use Rattle.op_trees.specs.SeenLaws.{seen_same}
use Rattle.process_core.specs.Ready.{Name}
use Rattle.jani_table.specs.Operators.{jani_meaning}
use Rattle.jani_tree.specs.Syntax.{Expression}
use Rattle.jani_check.specs.ProfileFaults.{same_tree}
use Rattle.jani_check.proofs.SameRewards.{same_forth}
use Rattle.jani_meaning.specs.Scene.{see}

pub seen_alike : (a b : Expression) → same_tree a b ≡ true → (names : Name → Seen) → see a names ≡ see b names
unfolding see
seen_alike a b h names = seen_same jani_meaning a b (same_forth a b h) names
