use Rattle.std.specs.Prelude.{map}
use Rattle.std.specs.Option.{option_map}
use Rattle.std.proofs.Common.{◌∙◌, ap, ap₂}
use Rattle.op_trees.specs.Tree.{tree}
use Rattle.jani_table.specs.Node.{array, nodes}
use Rattle.jani_table.specs.NodeLaws.{node_array}
use Rattle.jani_tree.specs.Syntax.{File, const_of, var_of, automaton_of, vector_of, plain_element}
use Rattle.prism_to_jani.proofs.translation.filed.Goals as goal

pub returns : goal.returns
returns c =
    ap₂ {C = File} (λ es p. record {
      actions = c.args.actions;
      constants = map const_of c.args.constants;
      variables = map var_of c.args.variables;
      restrict = option_map tree c.args.restrict;
      automata = map automaton_of c.args.automata;
      elements = es;
      elements_at = 0;
      vectors = map vector_of c.args.vectors;
      properties = p;
    })
    (c.in_ok-elements.ensures ∙ ap (λ k. map (λ a. plain_element a.name) (map automaton_of k)) c.as_slice.ensures)
    (node_array 0 c.new.result ∙ ap (λ l. array 0 (nodes l)) c.new.ensures)
