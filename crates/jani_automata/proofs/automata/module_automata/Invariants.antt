use Rattle.std.proofs.Common.{◌≡◌, ◌++◌, [], map, drop}
use Rattle.jani_tree.specs.Syntax as jani
use Rattle.name_table.specs.Gathered.{body_in}
use Rattle.jani_edges.specs.Automata.{module_automata}
use Rattle.jani_edges.specs.Code.{names_in}
use Rattle.jani_automata.proofs.automata.module_automata.Given as goal

abbrev pub invariant-loop-i : goal.invariant-loop-i
invariant-loop-i l =
    map jani.automaton_of l.all ++ module_automata (names_in l.names) l.silently [] (map body_in (drop l.i l.file.modules)) (drop l.i l.names.modules.now)
    ≡ module_automata (names_in l.names) l.silently (map jani.write_of l.fn.values) (map body_in l.file.modules) l.names.modules.now
