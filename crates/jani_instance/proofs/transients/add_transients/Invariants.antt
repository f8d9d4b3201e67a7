use Rattle.std.proofs.Common.{◌≡◌, ◌++◌, map, take}
use Rattle.jani_instance.specs.Parts.{automaton_at, owned_at}
use Rattle.jani_instance.specs.Transients.{transient_by}
use Rattle.jani_instance.specs.Shapes.{transient_at}
use Rattle.jani_instance.specs.Views.{seen_in}
use Rattle.jani_instance.proofs.transients.add_transients.Given as goal

abbrev pub invariant-loop-o : goal.invariant-loop-o
invariant-loop-o l = map transient_at l.all.items ≡ map transient_at l.initial.all.items ++ map (transient_by (map automaton_at l.parts) (seen_in l.run)) (map owned_at (take l.o-index l.vars))
