use Rattle.std.proofs.Common.{◌≡◌, ◌++◌, drop}
use Rattle.std.specs.Prelude.{map}
use Rattle.decimal_json.specs.Text.{behind_commas}
use Rattle.std.specs.List.{AllByRecursion as OfAll}
use Rattle.jani_tree.specs.Canonical.{name_node}
use Rattle.jani_tree.specs.Pieces.{keyed_text}
use Rattle.jani_tree.specs.Text.{KeptNode}
use Rattle.jani_tree.proofs.spell.push_more_keyed.Given as goal

abbrev pub invariant-items : goal.invariant-items
invariant-items l =
    (l.out.items ++ behind_commas (map (keyed_text l.lead) (drop l.n-index l.names)) ≡ l.fn.out.items ++ behind_commas (map (keyed_text l.lead) l.names))
    × (OfAll (λ n. KeptNode (name_node n)) (drop l.n-index l.names) → OfAll (λ n. KeptNode (name_node n)) l.names)
