use Rattle.std.proofs.Common.{◌≡◌, ◌++◌, map, take}
use Rattle.jani_instance.specs.Parts.{owned_at}
use Rattle.jani_meaning.specs.Elements.{owned_by}
use Rattle.jani_tree.specs.Syntax.{var_of}
use Rattle.jani_instance.proofs.parts.push_owned.Given as goal

abbrev pub invariant-loop-var : goal.invariant-loop-var
invariant-loop-var l = map owned_at l.all.items ≡ map owned_at l.initial.all.items ++ owned_by l.owner (map var_of (take l.var-index l.vars))
