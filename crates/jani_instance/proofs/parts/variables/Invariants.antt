use Rattle.std.proofs.Common.{◌≡◌, ◌++◌, map, drop}
use Rattle.std.specs.Prelude.{Some, None}
use Rattle.jani_instance.specs.Parts.{automaton_at, owned_at}
use Rattle.jani_meaning.specs.Elements.{owned_by}
use Rattle.process_core.specs.Instance.{numbered}
use Rattle.jani_tree.specs.Syntax.{var_of}
use Rattle.jani_instance.proofs.parts.variables.Given as goal

abbrev pub invariant-loop-i : goal.invariant-loop-i
invariant-loop-i l = map owned_at l.all.items ++ numbered (λ i a. owned_by (Some i) a.variables) l.i (map automaton_at (drop l.i l.parts)) ≡ owned_by None (map var_of l.global) ++ numbered (λ i a. owned_by (Some i) a.variables) 0 (map automaton_at l.parts)
