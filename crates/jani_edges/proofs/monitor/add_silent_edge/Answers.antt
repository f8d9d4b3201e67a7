use Rattle.std.proofs.Common.{refl}
use Rattle.prism_tree.specs.Syntax.{file_of}
use Rattle.jani_tree.specs.Syntax as jani
use Rattle.jani_translation.specs.Automata.{monitor_edge, for_silent, zz_silent}
use Rattle.jani_edges.specs.Code.{names_in}
use Rattle.jani_edges.proofs.Monitored.{with_last}
use Rattle.jani_edges.proofs.monitor.add_silent_edge.Goals as goal

pub returns-in_ok-push : goal.returns-in_ok-push
returns-in_ok-push c =
    let n = names_in c.args.names.now in
    let f = file_of c.args.file.now in
    with_last jani.edge_of c.args.all.now c.push.new.self c.in_ok-silent_edge.field-0 _ (monitor_edge n f zz_silent for_silent) c.args.wanted c.args.wanted c.if-wanted.true refl refl
    c.in_ok-silent_edge.ensures c.in_ok-push.ensures.ok
