use Rattle.std.proofs.Common.{◌≡◌, ◌++◌, drop}
use Rattle.jani_instance.specs.Actions.{links_by}
use Rattle.jani_instance.proofs.vectors.links.Given as goal

abbrev pub invariant-loop-i : goal.invariant-loop-i
invariant-loop-i l = l.all.items ++ links_by l.i (drop l.i l.actions) (drop l.i l.parts) ≡ links_by 0 l.actions l.parts
