use Rattle.std.proofs.Common.{◌≡◌, ℕ, List, map, take}
use Rattle.std.specs.List.{list_any}
use Rattle.prism_tree.specs.Syntax.{rewards_of}
use Rattle.name_rules.specs.Names.{has_name}
use Rattle.jani_translation.specs.Automata.{for_action}
use Rattle.jani_edges.proofs.partners.item_actions.Given as goal

abbrev pub invariant-loop-r : goal.invariant-loop-r
invariant-loop-r l = (x : List ℕ) → has_name l.seen x ≡ list_any (λ r. list_any (λ i. for_action x i.on) r.items) (map rewards_of (take l.r-index l.rewards))
