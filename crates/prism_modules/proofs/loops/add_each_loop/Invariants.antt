use Rattle.std.proofs.Common.{◌≡◌, ◌++◌, map, drop}
use Rattle.prism_tree.specs.Syntax as prism
use Rattle.jani_tree.specs.Syntax.{automaton_of}
use Rattle.module_parts.specs.Code.{element_of}
use Rattle.prism_modules.specs.Commands.{loops_commands}
use Rattle.prism_modules.proofs.loops.add_each_loop.Given as goal

abbrev pub invariant-loop-i : goal.invariant-loop-i
invariant-loop-i l =
    map prism.command_of l.all ++ loops_commands l.names (element_of l.el) (automaton_of l.el.automaton.automaton.now) (drop l.i l.el.automaton.accepts.now) (drop l.i l.loops)
    ≡ map prism.command_of l.initial.all ++ loops_commands l.names (element_of l.el) (automaton_of l.el.automaton.automaton.now) l.el.automaton.accepts.now l.loops
