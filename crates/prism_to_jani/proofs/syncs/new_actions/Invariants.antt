use Rattle.std.proofs.Common.{◌≡◌, map, take}
use Rattle.jani_automata.specs.Code.{names_in}
use Rattle.jani_automata.specs.Parts.{made}
use Rattle.prism_to_jani.proofs.syncs.new_actions.Given as goal

abbrev pub invariant-loop-a : goal.invariant-loop-a
invariant-loop-a l = l.all ≡ map (λ a. made ((names_in l.names).action a)) (map (λ x. x.now) (take l.a-index l.acts))
