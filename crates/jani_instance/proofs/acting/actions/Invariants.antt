use Rattle.std.proofs.Common.{map, take}
use Rattle.std.specs.List.{AllZip}
use Rattle.jani_instance.specs.Actions.{IsNumbered}
use Rattle.jani_instance.specs.Parts.{automaton_at}
use Rattle.jani_instance.proofs.acting.actions.Given as goal

abbrev pub invariant-loop-part : goal.invariant-loop-part
invariant-loop-part l = AllZip IsNumbered (map automaton_at (take l.part-index l.parts)) l.all.items
