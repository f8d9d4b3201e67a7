use Rattle.std.proofs.Common.{◌≡◌, ◌++◌, drop}
use Rattle.std.specs.Prelude.{map}
use Rattle.decimal_json.specs.Text.{behind_commas}
use Rattle.std.specs.List.{AllByRecursion as OfAll}
use Rattle.jani_tree.specs.Text.{KeptNode, node_text}
use Rattle.jani_tree.proofs.spell.push_more.Given as goal

abbrev pub invariant-items : goal.invariant-items
invariant-items g l =
    (l.out.items ++ behind_commas (map (λ x. node_text (g.T.Shown.shown (g.T.Shown.seen x))) (drop l.x-index l.trees))
    ≡ l.fn.out.items ++ behind_commas (map (λ x. node_text (g.T.Shown.shown (g.T.Shown.seen x))) l.trees))
    × (OfAll (λ x. KeptNode (g.T.Shown.shown (g.T.Shown.seen x))) (drop l.x-index l.trees) → OfAll (λ x. KeptNode (g.T.Shown.shown (g.T.Shown.seen x))) l.trees)
