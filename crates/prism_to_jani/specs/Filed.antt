-- A JANI file of its parts.
use Rattle.std.specs.Prelude.{List, map, Option}
use Rattle.bridge_io.specs.declared.reason.Named.{Named}
use Rattle.jani_table.specs.Node.{array, no_nodes}
use Rattle.jani_tree.specs.Syntax.{Const, Expression, Var, Automaton, Vector, File, plain_element}

-- the file of these parts, whose elements are its automata
abbrev pub filed : List Named → List Const → List Var → Option Expression → List Automaton → List Vector → File
filed actions constants variables restrict automata vectors = record {
  actions = actions;
  constants = constants;
  variables = variables;
  restrict = restrict;
  automata = automata;
  elements = map (λ a. plain_element a.name) automata;
  elements_at = 0;
  vectors = vectors;
  properties = array 0 no_nodes;
}
