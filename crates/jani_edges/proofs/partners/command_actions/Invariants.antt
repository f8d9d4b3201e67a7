use Rattle.std.proofs.Common.{◌≡◌, ℕ, List, map, take}
use Rattle.std.specs.Prelude.{Some}
use Rattle.std.specs.List.{list_any}
use Rattle.process_core.specs.Ready.{same_label}
use Rattle.prism_tree.specs.Syntax.{command_of}
use Rattle.name_table.specs.Asks.{action_of}
use Rattle.name_rules.specs.Names.{has_name}
use Rattle.jani_edges.proofs.partners.command_actions.Given as goal

abbrev pub invariant-loop-c : goal.invariant-loop-c
invariant-loop-c l = (x : List ℕ) → has_name l.seen x ≡ list_any (λ c. same_label (Some x) (action_of c)) (map command_of (take l.c-index l.commands))
