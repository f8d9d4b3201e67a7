use Rattle.std.proofs.Common.{◌∙◌, ap, ap₂, map, List}
use Rattle.bridge_io.specs.declared.reason.Named.{Named}
use Rattle.process_core.specs.Ready.{Name}
use Rattle.jani_tree.specs.Syntax as jani
use Rattle.jani_edges.specs.Parts.{instead}
use Rattle.jani_edges.specs.Automata.{automaton, edge}
use Rattle.jani_edges.specs.Code.{names_in}
use Rattle.jani_automata.proofs.automata.module_automaton.Goals as goal

pub returns : goal.returns
returns c =
    c.in_ok-all.ensures (names_in c.args.names.now)
    ∙ ap₂ (λ (x : Named) (es : List jani.Edge). automaton (names_in c.args.names.now) x (map jani.write_of c.args.values) es)
    (c.in_ok-name.ensures ∙ ap₂ (λ (n : Named) (x : Name). instead n x) c.name_of.ensures c.as_str.ensures)
    (c.in_ok-edges.ensures ∙ ap (map (edge (names_in c.args.names.now) c.args.silently)) c.commands_of.ensures)
