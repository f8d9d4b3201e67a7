use Rattle.std.proofs.Common.{suc, ◌+◌, ◌*◌, ◌≤◌, length}
use Rattle.op_trees.specs.Tree.{tree}
use Rattle.prism_exprs.specs.Kept.{seen}
use Rattle.prism_exprs.specs.Reading.{Ends, Reads}
use Rattle.prism_tree.specs.Grammar.{level, expr}
use Rattle.prism_exprs.specs.Levels.{more, goes_on, lists_on, others, more_arguments}
use Rattle.prism_exprs.proofs.Loops.{Leads}
use Rattle.prism_exprs.proofs.Rising.{Risen}
use Rattle.prism_exprs.proofs.expressions.+expressions.Given as goal

abbrev pub decreases-parse_expr : goal.decreases-parse_expr
decreases-parse_expr l = 300 * length (seen l.tokens) + 51

abbrev pub decreases-parse_conditional : goal.decreases-parse_conditional
decreases-parse_conditional l = 300 * length (seen l.tokens) + 50

abbrev pub decreases-parse_choice : goal.decreases-parse_choice
decreases-parse_choice l = 300 * length (seen l.tokens) + 2

abbrev pub decreases-parse_first : goal.decreases-parse_first
decreases-parse_first l = 300 * length (seen l.tokens) + 1

abbrev pub decreases-parse_level : goal.decreases-parse_level
decreases-parse_level l = 300 * length (seen l.tokens) + l.height + 31

abbrev pub invariant-parse_level-chains : goal.invariant-parse_level-chains
invariant-parse_level-chains l = record {
  shorter : length (seen l.behind) ≤ length (seen l.tokens);
  risen : Risen l.height (seen l.tokens) (tree l.left) (seen l.behind);
}

abbrev pub decreases-parse_level-chains : goal.decreases-parse_level-chains
decreases-parse_level-chains l = length (seen l.behind)

abbrev pub decreases-parse_climb : goal.decreases-parse_climb
decreases-parse_climb l = 300 * length (seen l.tokens) + l.height + 20

abbrev pub decreases-parse_low : goal.decreases-parse_low
decreases-parse_low l = 300 * length (seen l.tokens) + l.height + 2

abbrev pub decreases-parse_chain : goal.decreases-parse_chain
decreases-parse_chain l = 300 * length (seen l.tokens) + l.level + 2

abbrev pub decreases-parse_prim : goal.decreases-parse_prim
decreases-parse_prim l = 300 * length (seen l.tokens)

abbrev pub invariant-parse_climb-loop-level : goal.invariant-parse_climb-loop-level
invariant-parse_climb-loop-level l = record {
  low : 6 ≤ l.level;
  reads : Reads (level expr l.level) (more l.level) (seen l.tokens) (tree l.left) (seen l.behind);
}

abbrev pub invariant-parse_low-loop-level : goal.invariant-parse_low-loop-level
invariant-parse_low-loop-level l = record {
  low : 1 ≤ l.level;
  reads : Reads (level expr l.level) (more l.level) (seen l.tokens) (tree l.left) (seen l.behind);
}

abbrev pub invariant-parse_chain-chain : goal.invariant-parse_chain-chain
invariant-parse_chain-chain l = record {
  shorter : length (seen l.rest) ≤ length (seen l.tokens);
  ends : Ends (more l.level) (seen l.rest);
  leads : Leads (more (suc l.level)) (others l.level (tree l.fn.first)) (seen l.tokens) (others l.level (tree l.left)) (seen l.rest);
}

abbrev pub decreases-parse_chain-chain : goal.decreases-parse_chain-chain
decreases-parse_chain-chain l = length (seen l.rest)

abbrev pub decreases-parse_name : goal.decreases-parse_name
decreases-parse_name l = 300 * length (seen l.tokens) + 2

abbrev pub decreases-parse_one_argument : goal.decreases-parse_one_argument
decreases-parse_one_argument l = 300 * length (seen l.tokens)

abbrev pub decreases-parse_two_arguments : goal.decreases-parse_two_arguments
decreases-parse_two_arguments l = 300 * length (seen l.tokens) + 1

abbrev pub decreases-parse_both : goal.decreases-parse_both
decreases-parse_both l = 300 * length (seen l.tokens)

abbrev pub decreases-parse_listed : goal.decreases-parse_listed
decreases-parse_listed l = 300 * length (seen l.tokens) + 1

abbrev pub decreases-parse_argument : goal.decreases-parse_argument
decreases-parse_argument l = 300 * length (seen l.tokens)

abbrev pub decreases-parse_others : goal.decreases-parse_others
decreases-parse_others l = 300 * length (seen l.tokens) + 1

abbrev pub invariant-parse_others-arguments : goal.invariant-parse_others-arguments
invariant-parse_others-arguments l = record {
  shorter : length (seen l.rest) ≤ length (seen l.tokens);
  ends : Ends goes_on (seen l.rest);
  leads : Leads lists_on (more_arguments l.op l.at (tree l.fn.first)) (seen l.tokens) (more_arguments l.op l.at (tree l.whole)) (seen l.rest);
}

abbrev pub decreases-parse_others-arguments : goal.decreases-parse_others-arguments
decreases-parse_others-arguments l = length (seen l.rest)
