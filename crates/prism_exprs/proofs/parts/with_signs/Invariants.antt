use Rattle.std.proofs.Common.{◌≡◌, map, length}
use Rattle.op_trees.specs.Tree.{tree}
use Rattle.prism_exprs.specs.Kept.{seen, lexeme_at}
use Rattle.prism_tree.specs.Grammar.{applied}
use Rattle.prism_exprs.proofs.parts.with_signs.Given as goal

abbrev pub invariant-signs : goal.invariant-signs
invariant-signs l =
    applied l.op (map (lexeme_at l.tokens.source.now.bytes.now l.tokens.source.now.literals.now) l.signs) (tree l.whole) ≡ applied l.op (seen l.tokens) (tree l.fn.e)

abbrev pub decreases-signs : goal.decreases-signs
decreases-signs l = length l.signs
