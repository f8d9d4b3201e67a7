use Rattle.std.specs.Prelude.{◌+◌, ◌++◌, ◌∷◌, [], List, None, map, drop, take, length, vec_len}
use Rattle.std.specs.Borrow.{Bor}
use Rattle.std.proofs.Common.{◌∙◌, ap, ap₂, sym, append_assoc}
use Rattle.std.proofs.lemmas.List.{map-append}
use Rattle.basics.specs.Lists.{drop_item}
use Rattle.gathering.proofs.Loops.{taken}
use Rattle.edge_tables.specs.declared.edges.ElementEdges.{ElementEdges}
use Rattle.prism_targets.specs.declared.rows.VectorRow.{VectorRow}
use Rattle.edge_tables.specs.Tables.{Row, Served, element_serves, served_from}
use Rattle.prism_targets.specs.Made.{Made, made_alone, silent_from}
use Rattle.edge_tables.specs.Code.{Shape, shape_kept, table_view}
use Rattle.prism_targets.specs.Code.{element_served, row_view, target_view}
use Rattle.edge_tables.proofs.TakingPart.{serves_own}
use Rattle.prism_targets.proofs.making.add_elements.Goals as goal

pub loop-k-preserved : goal.loop-k-preserved
loop-k-preserved c =
    let k = c.loop-k.k in
    let t = table_view c.index-edges-k.result in
    let more = map table_view (drop (k + 1) c.args.edges.now) in
    let all = map row_view c.args.rows.now in
    let first = vec_len c.loop-k.targets in
    let rest = drop_item c.args.edges.now k c.index-edges-k.result c.loop-k-test.true c.index-edges-k.is in
    let mine = ap (map (λ (r : Bor VectorRow). row_view r.now)) c.get.ensures ∙ c.in_ok-mine.ensures k in
    record {
      targets =
          ap (λ (l : List Made). l ++ silent_from (k + 1) more) c.in_ok-add_element.ensures.targets
          ∙ append_assoc (map target_view c.loop-k.targets.items) (made_alone k (t.rewarding None)) (silent_from (k + 1) more)
          ∙ ap (λ (l : List ElementEdges). map target_view c.loop-k.targets.items ++ silent_from k (map table_view l)) (sym rest)
          ∙ c.loop-k.invariant.targets;
      elements =
          ap₂ (λ (l : List Served) n. l ++ served_from all (k + 1) n more)
          (c.in_ok-add_element.ensures.elements
          ∙ ap (λ (s : Served). map element_served c.loop-k.all.items ++ s ∷ []) (ap (λ (l : List Row). element_serves l k first t) mine ∙ serves_own all k first t))
          c.in_ok-add_element.ensures.count
          ∙ append_assoc (map element_served c.loop-k.all.items) (element_serves all k first t ∷ []) (served_from all (k + 1) (first + length (t.rewarding None)) more)
          ∙ ap (λ (l : List ElementEdges). map element_served c.loop-k.all.items ++ served_from all k first (map table_view l)) (sym rest)
          ∙ c.loop-k.invariant.elements;
      shapes =
          c.in_ok-add_element.ensures.shapes
          ∙ ap (λ (l : List Shape). l ++ shape_kept c.index-edges-k.result ∷ []) c.loop-k.invariant.shapes
          ∙ sym (map-append shape_kept (take k c.args.edges.now) (c.index-edges-k.result ∷ []))
          ∙ ap (map shape_kept) (sym (taken c.args.edges.now k c.index-edges-k.result c.loop-k-test.true c.index-edges-k.is));
    }
