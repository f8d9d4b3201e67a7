use Rattle.std.proofs.Common.{◌∙◌, ap, ap₂, map, List}
use Rattle.bridge_io.specs.declared.reason.Named.{Named}
use Rattle.jani_tree.specs.Syntax as jani
use Rattle.prism_tree.specs.Syntax.{file_of}
use Rattle.jani_edges.specs.Automata.{automaton, monitor_edges, zz_monitor}
use Rattle.jani_edges.specs.Code.{names_in}
use Rattle.jani_automata.proofs.automata.monitor.Goals as goal

pub returns : goal.returns
returns c =
    let n = names_in c.args.names.now in
    c.in_ok-all.ensures n
    ∙ ap₂ (λ (x : Named) (es : List jani.Edge). automaton n x (map jani.write_of c.new.result) es) c.in_ok-name.ensures c.in_ok-edges.ensures
    ∙ ap (λ (l : List jani.Write). automaton n zz_monitor l (monitor_edges n (file_of c.args.file.now))) (ap (map jani.write_of) c.new.ensures)
