use Rattle.std.specs.Prelude.{[], ◌∷◌}
use Rattle.std.proofs.Common.{ap}
use Rattle.jani_tree.specs.Syntax.{Automaton}
use Rattle.jani_loops.specs.Elements.{element_view}
use Rattle.edge_tables.specs.Tables.{table_of}
use Rattle.edge_tables.specs.Code.{pays_by, shape_kept, shape_of, table_view}
use Rattle.gathering.proofs.Loops.{map_more, numbered_all, numbered_more}
use Rattle.edge_tables.proofs.edges.all_edges.Goals as goal

pub loop-k-preserved : goal.loop-k-preserved
loop-k-preserved c = record {
  edges =
      numbered_more table_view (λ k (a : Automaton). table_of (pays_by c.args.structures.now k) a.edges ∷ []) element_view _ c.args.automata.now c.loop-k.k
      c.index-automata-k.result c.loop-k.all.items c.push.new.self.items (c.in_ok-of.field-0 ∷ []) c.loop-k-test.true c.index-automata-k.is c.loop-k.invariant.edges
      (ap (λ x. x ∷ []) c.in_ok-of.ensures.edges) c.in_ok-push.ensures.items;
  shapes =
      map_more shape_kept shape_of c.args.automata.now c.loop-k.k c.index-automata-k.result c.loop-k.all.items c.push.new.self.items c.in_ok-of.field-0
      c.loop-k-test.true c.index-automata-k.is c.loop-k.invariant.shapes c.in_ok-push.ensures.items c.in_ok-of.ensures.shape;
}

pub returns-clause-edges : goal.returns-clause-edges
returns-clause-edges c =
    numbered_all (λ k (a : Automaton). table_of (pays_by c.args.structures.now k) a.edges ∷ []) element_view _ _ c.args.automata.now c.loop-k.k c.loop-k-test.false c.loop-k.invariant.edges
