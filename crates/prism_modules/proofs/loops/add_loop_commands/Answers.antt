use Rattle.std.proofs.Common.{◌++◌, ◌∙◌, ap, map, sym, append-nil, ℕ, List}
use Rattle.std.specs.Prelude.{Vec}
use Rattle.std.specs.Global.{Global}
use Rattle.std.specs.List.{filter}
use Rattle.gathering.proofs.Loops.{flat_zip_none}
use Rattle.bridge_io.specs.declared.reason.Named.{Named}
use Rattle.prism_tree.specs.Syntax as prism
use Rattle.jani_tree.specs.declared.syntax.JaniEdge.{JaniEdge}
use Rattle.jani_tree.specs.Syntax.{automaton_of, edge_of}
use Rattle.jani_meaning.specs.Loops.{has_name}
use Rattle.module_parts.specs.Code.{element_of}
use Rattle.prism_modules.specs.Commands.{loop_commands, loops_commands}
use Rattle.prism_modules.proofs.ByServing.{no_items}
use Rattle.prism_modules.proofs.loops.add_loop_commands.Goals as goal

pub returns-then-is_empty : goal.returns-then-is_empty
returns-then-is_empty c =
    let n = c.args.names.now in
    let el = element_of c.args.el.now in
    let a = automaton_of c.args.el.now.automaton.automaton.now in
    let xs = c.args.el.now.automaton.accepts.now in
    let none = no_items c.args.loops.now (sym c.if-is_empty.true ∙ c.is_empty.ensures) in
    sym (append-nil (map prism.command_of c.args.all.now))
    ∙ ap (λ (cs : List prism.Command). map prism.command_of c.args.all.now ++ cs)
    (sym (ap (loops_commands n el a xs) none ∙ flat_zip_none (λ (x : Named) (ts : Vec ℕ Global). loop_commands n el a x ts.items) xs))

pub add_each_loop-requires-clause-acting : goal.add_each_loop-requires-clause-acting
add_each_loop-requires-clause-acting c = λ x. c.in_ok-acting.ensures x ∙ ap (λ (es : List JaniEdge). filter (λ e. has_name x e.action) (map edge_of es)) c.as_slice.ensures
