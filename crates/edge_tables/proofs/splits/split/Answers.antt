use Rattle.std.specs.Prelude.{◌≡◌, ℕ, ◌+◌, ◌<◌, List, [], ◌∷◌, map, length, drop, Bool, true, Some, if◌then◌else◌}
use Rattle.std.proofs.Common.{refl, sym, ap, ap₂, ◌∙◌, arith}
use Rattle.basics.specs.Lists.{drop_item}
use Rattle.jani_tree.specs.Syntax.{Vector, vector_of}
use Rattle.prism_translation.specs.Targets.{part_of}
use Rattle.edge_tables.specs.declared.edges.ElementEdges.{ElementEdges}
use Rattle.edge_tables.specs.Tables.{EdgeTable, has_some, makers_at, plain_at, split_from}
use Rattle.edge_tables.specs.Code.{table_view}
use Rattle.edge_tables.proofs.splits.split.Goals as goal

some_there : (ns : List ℕ) → 0 < length ns → has_some ns ≡ true
some_there [] h = absurd (omega (arith, h))
some_there (n ∷ ns) h = refl

-- the first element with an edge that is one of the makers
found : (v : Vector) (k : ℕ) (a : EdgeTable) (more : List EdgeTable) (ns : List ℕ) (b : Bool) → ns ≡ makers_at a (part_of v k) → b ≡ plain_at a (part_of v k) → has_some ns ≡ true →
    record { vector = v; writer = Some k; makers = ns; plain = b } ≡ split_from v k (a ∷ more)
found v k a more ns b m p some =
    ap₂ (λ (l : List ℕ) (c : Bool). record { vector = v; writer = Some k; makers = l; plain = c }) m p
    ∙ ap (λ (c : Bool). if c then record { vector = v; writer = Some k; makers = makers_at a (part_of v k); plain = plain_at a (part_of v k) } else split_from v (k + 1) more)
    (sym (ap has_some (sym m) ∙ some))

pub returns-then-not-is_empty : goal.returns-then-not-is_empty
returns-then-not-is_empty c =
    let v = vector_of c.args.v.now in
    let a = table_view c.index-elements-k.result in
    found v c.loop-k.k a (map table_view (drop (c.loop-k.k + 1) c.args.elements.now)) c.makers-makers.result.now c.is_plain.result
    (c.makers-makers.ensures ∙ ap (makers_at a) c.part_of-part.ensures)
    (c.is_plain.ensures ∙ ap (plain_at a) c.part_of-part.ensures)
    (some_there c.makers-makers.result.now (grind (arith, c.is_empty.ensures, c.if-not-is_empty.true)))
    ∙ ap (λ (l : List ElementEdges). split_from v c.loop-k.k (map table_view l)) (sym (drop_item c.args.elements.now c.loop-k.k c.index-elements-k.result c.loop-k-test.true c.index-elements-k.is))
    ∙ c.loop-k.invariant
