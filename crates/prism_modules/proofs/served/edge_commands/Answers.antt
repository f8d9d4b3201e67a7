use Rattle.std.proofs.Common.{◌≡◌, ◌∙◌, ap, map, length, drop, refl, arith, List}
use Rattle.prism_tree.specs.Syntax as prism
use Rattle.jani_tree.specs.declared.syntax.JaniEdge.{JaniEdge}
use Rattle.jani_tree.specs.Syntax as jani
use Rattle.gathering.proofs.Loops.{none_left, paired_flat}
use Rattle.prism_targets.specs.declared.served.EdgeServing.{EdgeServing}
use Rattle.prism_targets.specs.Code.{edge_served}
use Rattle.module_parts.specs.Code.{element_of}
use Rattle.prism_modules.specs.Commands.{commands_by, edge_commands}
use Rattle.prism_modules.proofs.served.edge_commands.Goals as goal

pub bounds-serving-i : goal.bounds-serving-i
bounds-serving-i c =
    let many = c.requires.many in
    let edges : length c.as_slice-edges.result.now ≡ length c.args.el.now.automaton.automaton.now.edges = ap length c.as_slice-edges.ensures in
    omega (arith, many, edges)

pub loop-i-preserved : goal.loop-i-preserved
loop-i-preserved c =
    let many = c.requires.many in
    let edges : length c.as_slice-edges.result.now ≡ length c.args.el.now.automaton.automaton.now.edges = ap length c.as_slice-edges.ensures in
    let n = c.args.names.now in
    let el = element_of c.args.el.now in
    paired_flat (λ (es : List JaniEdge) (ss : List EdgeServing). edge_commands n el (map jani.edge_of es) (map edge_served ss))
    (λ (e : JaniEdge) (s : EdgeServing). commands_by n el (jani.edge_of e) s.targets.items s.silent) (λ e s es ss. refl) _ (map prism.command_of c.loop-i.all) _
    c.as_slice-edges.result.now c.args.serving.now c.loop-i.i c.index-edges-i.result c.index-serving-i.result (omega arith) (omega (arith, many, edges))
    c.index-edges-i.is c.index-serving-i.is c.loop-i.invariant c.in_ok-add_commands_of.ensures

pub returns : goal.returns
returns c =
    none_left (λ (es : List JaniEdge). edge_commands c.args.names.now (element_of c.args.el.now) (map jani.edge_of es) (map edge_served (drop c.loop-i.i c.args.serving.now))) _
    (map prism.command_of c.loop-i.all) c.as_slice-edges.result.now c.loop-i.i refl (omega arith) c.loop-i.invariant
    ∙ ap (λ (es : List JaniEdge). edge_commands c.args.names.now (element_of c.args.el.now) (map jani.edge_of es) (map edge_served c.args.serving.now)) c.as_slice-edges.ensures
