use Rattle.std.proofs.Common.{◌≡◌, map, take}
use Rattle.std.specs.List.{filter}
use Rattle.prism_tree.specs.Syntax.{file_of}
use Rattle.jani_edges.specs.Automata.{has_items, for_action}
use Rattle.jani_automata.proofs.automata.earning_actions.Given as goal

abbrev pub invariant-loop-a : goal.invariant-loop-a
invariant-loop-a l = map (λ x. x.now) l.all.items ≡ filter (λ a. has_items (for_action a) (file_of l.file)) (map (λ x. x.now) (take l.a-index l.acts))
