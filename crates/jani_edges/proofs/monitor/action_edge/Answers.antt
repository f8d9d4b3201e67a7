use Rattle.std.proofs.Common.{◌∙◌, ap, ap₂, List}
use Rattle.bridge_io.specs.declared.reason.Named.{Named}
use Rattle.process_core.specs.Ready.{Name}
use Rattle.jani_tree.specs.Syntax as jani
use Rattle.jani_edges.specs.Code.{names_in, shared_writes, gain_edge}
use Rattle.jani_edges.proofs.monitor.action_edge.Goals as goal

pub returns : goal.returns
returns c =
    c.in_ok-all.ensures
    ∙ ap₂ (λ (z : Named) (ws : List jani.Write). gain_edge z ws) c.in_ok-action.ensures
    (c.in_ok-writes.ensures ∙ ap (λ (x : Name). shared_writes (names_in c.args.names.now) c.args.shares.now x) c.as_str.ensures ∙ c.requires c.args.a.now)
