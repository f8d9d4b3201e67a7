use Rattle.std.specs.Prelude.{◌≡◌, ◌++◌, map, drop}
use Rattle.jani_tree.specs.Syntax.{file_of}
use Rattle.jani_check.specs.Rewarding.{element_rewards, rewarded_in}
use Rattle.jani_check.proofs.elements.each_rewarding.Given as goal

abbrev pub invariant-loop-e : goal.invariant-loop-e
invariant-loop-e l =
    map rewarded_in l.list.items ++ map (λ e. element_rewards (file_of l.file) e.name) (drop l.e-index l.e-items) ≡ map (λ e. element_rewards (file_of l.file) e.name) l.e-items
