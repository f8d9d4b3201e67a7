use Rattle.std.specs.Prelude.{◌≡◌, [], ◌∷◌, List, map, Ok, Err, IfOk, Result, Vec}
use Rattle.std.specs.Global.{Global}
use Rattle.std.specs.declared.alloc.AllocError.{AllocError}
use Rattle.std.proofs.Common.{◌∙◌}
use Rattle.jani_loops.specs.declared.accepting.ElementAutomaton.{ElementAutomaton}
use Rattle.jani_loops.specs.Elements.{element_view}
use Rattle.jani_tree.specs.Syntax.{File, Automaton}
use Rattle.jani_meaning.specs.Elements as jani
use Rattle.jani_meaning.specs.Elements.{Owned, structures}
use Rattle.process_core.specs.Instance.{numbered}
use Rattle.prism_translation.specs.Elements.{elements}
use Rattle.edge_tables.specs.declared.edges.ElementEdges.{ElementEdges}
use Rattle.edge_tables.specs.declared.places.Places.{Places}
use Rattle.edge_tables.specs.Tables.{table_in, table_of}
use Rattle.edge_tables.specs.Places.{ArePlaces}
use Rattle.edge_tables.specs.Code.{table_view, pays_by}
use Rattle.edge_tables.proofs.FileTables.{tables_are}
use Rattle.edge_tables.proofs.edges.element_edges.Goals as goal

told : (t : Places) (vars : List Owned) (automata : List ElementAutomaton) → ArePlaces t vars → (r : Result (Vec ElementEdges Global) AllocError) →
    IfOk r (λ ts. map table_view ts.items ≡ numbered (λ k (a : Automaton). table_of (pays_by t k) a.edges ∷ []) 0 (map element_view automata)) →
    IfOk r (λ ts. (file : File) → vars ≡ structures file → map element_view automata ≡ jani.elements file → map table_view ts.items ≡ map (table_in file) (elements file))
told t vars automata h (Ok ts) e = λ file v a. e ∙ tables_are file t vars automata v h a
told t vars automata h (Err x) e = tt

pub returns-clause-edges : goal.returns-clause-edges
returns-clause-edges c = told c.in_ok-places.places _ c.args.automata.now c.in_ok-places.ensures c.all_edges.result c.all_edges.ensures.edges
