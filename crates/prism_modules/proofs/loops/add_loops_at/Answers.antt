use Rattle.std.proofs.Common.{◌++◌, ◌∙◌, ap, map, List}
use Rattle.std.specs.Borrow.{Bor}
use Rattle.gathering.specs.Lists.{list_under}
use Rattle.gathering.proofs.Loops.{flat_seen}
use Rattle.prism_tree.specs.Syntax as prism
use Rattle.jani_tree.specs.declared.syntax.JaniEdge.{JaniEdge}
use Rattle.jani_tree.specs.Syntax.{Location, location_of}
use Rattle.jani_loops.specs.Looped.{lent_edge, loop_with}
use Rattle.module_parts.specs.Code.{element_of}
use Rattle.prism_modules.specs.Commands.{target_commands}
use Rattle.prism_modules.proofs.loops.add_loops_at.Goals as goal

pub loop-l-preserved : goal.loop-l-preserved
loop-l-preserved c =
    let n = c.args.names.now in
    let el = element_of c.args.el.now in
    let x = c.args.action.now in
    let ts = c.args.targets.now in
    let l = c.l-item.result in
    flat_seen (λ (p : Location). target_commands n el (loop_with x p.name (map lent_edge (list_under c.args.edges.now p.name.name))) ts) location_of c.as_slice-l-items.result.now c.loop-l.l-index l
    (map prism.command_of c.args.all.now) (map prism.command_of c.loop-l.all) (map prism.command_of c.add_loop.new.all) c.loop-l-test.true c.l-item.is c.loop-l.invariant
    (c.in_ok-add_loop.ensures
    ∙ ap (λ (es : List (Bor JaniEdge)). map prism.command_of c.loop-l.all ++ target_commands n el (loop_with x l.name (map lent_edge es)) ts)
    (c.get-here.ensures ∙ ap (list_under c.args.edges.now) c.as_str.ensures))
