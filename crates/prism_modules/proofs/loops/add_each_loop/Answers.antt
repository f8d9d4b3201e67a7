use Rattle.std.proofs.Common.{◌≡◌, ◌++◌, ◌∙◌, ap, map, refl, sym, drop, arith, ℕ, List}
use Rattle.std.specs.Prelude.{Vec}
use Rattle.std.specs.Global.{Global}
use Rattle.std.specs.List.{filter, flat_map}
use Rattle.bridge_io.specs.declared.reason.Named.{Named}
use Rattle.op_trees.specs.Names.{is_called}
use Rattle.gathering.specs.Lists.{list_under}
use Rattle.gathering.proofs.Loops.{none_left, paired_flat}
use Rattle.prism_tree.specs.Syntax as prism
use Rattle.jani_tree.specs.Syntax.{Edge, Location, automaton_of}
use Rattle.jani_loops.specs.Looped.{lent_edge, loop_with}
use Rattle.module_parts.specs.Code.{element_of}
use Rattle.prism_modules.specs.Commands.{target_commands, loop_commands, loops_commands}
use Rattle.prism_modules.proofs.ByServing.{loops_beside}
use Rattle.prism_modules.proofs.loops.add_each_loop.Goals as goal

pub bounds-loops-i : goal.bounds-loops-i
bounds-loops-i c = let many = c.requires.many in omega (arith, many)

pub loop-i-preserved : goal.loop-i-preserved
loop-i-preserved c =
    let n = c.args.names.now in
    let el = element_of c.args.el.now in
    let a = automaton_of c.args.el.now.automaton.automaton.now in
    let many = c.requires.many in
    let x = c.index-accepts-i.result in
    let ts = c.index-loops-i.result in
    let es = map lent_edge c.get-edges.result.now in
    paired_flat (λ (xs : List Named) (ls : List (Vec ℕ Global)). loops_commands n el a xs ls) (λ (x : Named) (ts : Vec ℕ Global). loop_commands n el a x ts.items) (λ x ts xs ls. refl) _
    (map prism.command_of c.loop-i.all) (map prism.command_of c.add_loops_with.new.all) c.args.el.now.automaton.accepts.now c.args.loops.now c.loop-i.i x ts
    (omega arith) (omega (arith, many)) c.index-accepts-i.is c.index-loops-i.is c.loop-i.invariant
    (c.in_ok-add_loops_with.ensures
    ∙ ap (λ (l : List prism.Command). map prism.command_of c.loop-i.all ++ l)
    (ap (λ (ns : List ℕ). flat_map (λ (l : Location). target_commands n el (loop_with x l.name (filter (λ (e : Edge). is_called l.name.name e.location) es)) ns) a.locations) c.as_slice.ensures.value
    ∙ loops_beside n el a x es ts.items a.locations
    (ap (map lent_edge) (c.get-edges.ensures ∙ ap (list_under c.args.acting.now) (c.as_str.ensures ∙ ap (λ (y : Named). y.name) (sym c.index-accepts-i.is))) ∙ c.requires.acting x.name)))

pub returns : goal.returns
returns c =
    let n = c.args.names.now in
    let el = element_of c.args.el.now in
    let a = automaton_of c.args.el.now.automaton.automaton.now in
    none_left (λ (xs : List Named). loops_commands n el a xs (drop c.loop-i.i c.args.loops.now)) _ (map prism.command_of c.loop-i.all) c.args.el.now.automaton.accepts.now c.loop-i.i refl (omega arith)
    c.loop-i.invariant
