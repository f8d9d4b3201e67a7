use Rattle.std.proofs.Common.{◌≡◌, ℕ, List, map, take}
use Rattle.std.specs.Prelude.{◌||◌}
use Rattle.std.specs.List.{list_any}
use Rattle.prism_tree.specs.Syntax.{item_of}
use Rattle.name_rules.specs.Names.{has_name}
use Rattle.jani_translation.specs.Automata.{for_action}
use Rattle.jani_edges.proofs.partners.note_items.Given as goal

abbrev pub invariant-loop-i : goal.invariant-loop-i
invariant-loop-i l = (x : List ℕ) → has_name l.seen x ≡ (has_name l.initial.seen x || list_any (λ i. for_action x i.on) (map item_of (take l.i-index l.items)))
