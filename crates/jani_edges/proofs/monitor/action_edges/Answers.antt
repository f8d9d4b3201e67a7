use Rattle.std.proofs.Common.{◌∙◌, ap, map, ℕ, List}
use Rattle.std.specs.Borrow.{Bor}
use Rattle.std.specs.List.{flat_map, zip}
use Rattle.prism_tree.specs.Syntax.{file_of, rewards_of}
use Rattle.prism_tree.specs.declared.syntax.PrismRewards.{PrismRewards}
use Rattle.jani_tree.specs.Syntax as jani
use Rattle.process_core.specs.Ready.{Name}
use Rattle.gathering.proofs.Loops.{mapped_more}
use Rattle.jani_translation.specs.Parts.{made}
use Rattle.jani_translation.specs.Automata.{monitor_edge, for_action, reward_of}
use Rattle.jani_edges.specs.Code.{names_in}
use Rattle.jani_edges.proofs.monitor.action_edges.Goals as goal

pub loop-a-preserved : goal.loop-a-preserved
loop-a-preserved c =
    mapped_more jani.edge_of (λ (a : Name). monitor_edge (names_in c.args.names.now) (file_of c.args.file.now) (made ((names_in c.args.names.now).action a)) (for_action a)) (λ (x : Bor (List ℕ)). x.now) c.args.earning.now c.loop-a.all c.push.new.self c.loop-a.a-index c.a-item.result c.in_ok-action_edge.field-0 c.loop-a-test.true c.a-item.is
    c.loop-a.invariant c.in_ok-action_edge.ensures c.in_ok-push.ensures.ok

pub action_edge-requires : goal.action_edge-requires
action_edge-requires c = λ x.
    c.in_ok-shares.ensures (names_in c.args.names.now) x
    ∙ ap (λ (l : List PrismRewards). flat_map (λ p. reward_of (names_in c.args.names.now) (for_action x) p.0 p.1) (zip (map rewards_of l) c.args.names.now.rewards.now)) c.as_slice.ensures
