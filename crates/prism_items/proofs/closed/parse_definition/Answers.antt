use Rattle.op_trees.specs.Tree.{tree}
use Rattle.prism_lex.specs.declared.symbols.Symbol.TheVariants as S
use Rattle.prism_exprs.specs.Reading.{none}
use Rattle.prism_exprs.proofs.Laws.{token_one}
use Rattle.prism_exprs.proofs.Outer.{expressions_word, leaves_in}
use Rattle.prism_items.specs.Parts.{in_scope, closed_expression, definition}
use Rattle.prism_items.proofs.Leading.{begin, step, halt, parses_by}
use Rattle.prism_items.proofs.Closing.{closed_word}
use Rattle.prism_items.proofs.closed.parse_definition.Goals as goal

pub returns-in_err-_equal : goal.returns-in_err-_equal
returns-in_err-_equal c = leaves_in _ _ _ _ _ _ c.from_residual.ensures (λ s. halt _ _ s (begin (in_scope definition s) none _) (λ _. closed_word _ (expressions_word s)) _ (c.in_err-_equal.ensures s))

pub returns : goal.returns
returns c = parses_by tree (in_scope definition) (in_scope (closed_expression S.Semicolon)) none _ _ c.parse_closed.result (λ s. step _ _ (begin (in_scope definition s) none _) (token_one _) (c.in_ok-_equal.ensures s)) c.parse_closed.ensures
