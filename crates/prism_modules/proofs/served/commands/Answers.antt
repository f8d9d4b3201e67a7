use Rattle.std.proofs.Common.{◌++◌, ◌∙◌, ap, ap₂, map, length, ℕ, List}
use Rattle.std.specs.Prelude.{Vec}
use Rattle.std.specs.Global.{Global}
use Rattle.prism_tree.specs.Syntax as prism
use Rattle.jani_tree.specs.Syntax.{automaton_of, edge_of}
use Rattle.prism_targets.specs.declared.served.EdgeServing.{EdgeServing}
use Rattle.prism_targets.specs.Tables.{Served}
use Rattle.prism_targets.specs.Code.{edge_served}
use Rattle.module_parts.specs.Code.{element_of}
use Rattle.prism_modules.specs.Commands.{edge_commands, loops_commands}
use Rattle.prism_modules.proofs.ByServing.{all_commands, blocking_served, loops_many, own_many}
use Rattle.prism_modules.proofs.served.commands.Goals as goal

pub edge_commands-requires-clause-many : goal.edge_commands-requires-clause-many
edge_commands-requires-clause-many c = ap length c.as_slice.ensures.value ∙ own_many c.args.el.now c.args.serving.now c.requires.shape

pub add_loop_commands-requires-clause-many : goal.add_loop_commands-requires-clause-many
add_loop_commands-requires-clause-many c = ap length c.as_slice-2.ensures.value ∙ loops_many c.args.el.now c.args.serving.now c.requires.shape

pub returns : goal.returns
returns c =
    let n = c.args.names.now in
    let el = element_of c.args.el.now in
    let a = c.args.el.now.automaton in
    c.in_ok-add_blocking.ensures
    ∙ ap₂ (λ (p q : List prism.Command). p ++ q)
    (c.in_ok-add_loop_commands.ensures
    ∙ ap₂ (λ (p q : List prism.Command). p ++ q)
    (c.in_ok-all.ensures ∙ ap (λ (ss : List EdgeServing). edge_commands n el (map edge_of a.automaton.now.edges) (map edge_served ss)) c.as_slice.ensures.value)
    (ap (λ (ls : List (Vec ℕ Global)). loops_commands n el (automaton_of a.automaton.now) a.accepts.now ls) c.as_slice-2.ensures.value)
    ∙ all_commands n c.args.el.now c.args.serving.now c.requires.actions c.requires.shape c.requires.serving)
    (blocking_served n el c.as_slice-3.result.now c.requires.actions (c.as_slice-3.ensures.value ∙ ap (λ (s : Served). s.blocked) c.requires.serving))
