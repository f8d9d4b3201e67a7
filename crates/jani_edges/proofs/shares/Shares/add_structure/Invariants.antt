use Rattle.std.proofs.Common.{◌≡◌, ◌++◌, [], ℕ, List, map, take}
use Rattle.std.specs.Prelude.{if◌then◌else◌}
use Rattle.std.specs.List.{filter, list_any}
use Rattle.prism_tree.specs.Syntax.{item_of}
use Rattle.name_table.specs.Asks.{NewNames}
use Rattle.jani_translation.specs.Parts.{instead_if}
use Rattle.jani_translation.specs.Automata.{for_action, sum_to}
use Rattle.jani_edges.specs.Code.{items_under, shared_writes}
use Rattle.jani_edges.proofs.shares.Shares.add_structure.Given as goal

abbrev pub invariant-loop-i : goal.invariant-loop-i
invariant-loop-i l = record {
  left : (x : List ℕ) → items_under l.left x
      ≡ (if list_any (λ i. for_action x i.on) (map item_of (take l.i-index l.items)) then [] else filter (λ i. for_action x i.on) (map item_of l.items));
  shares : (n : NewNames) (x : List ℕ) → shared_writes n l.self x
      ≡ shared_writes n l.initial.self x
      ++ (if list_any (λ i. for_action x i.on) (map item_of (take l.i-index l.items)) then sum_to n (instead_if l.structure.name l.entry.name) (filter (λ i. for_action x i.on) (map item_of l.items)) else []);
}
