use Rattle.op_trees.specs.Tree.{tree}
use Rattle.prism_lex.specs.declared.token.TokenKind.TheVariants as K
use Rattle.prism_exprs.specs.Reading.{none}
use Rattle.prism_exprs.specs.Levels.{goes_on}
use Rattle.prism_exprs.proofs.Laws.{token_word, token_follows, then_word, gives_word}
use Rattle.prism_exprs.proofs.Outer.{expressions_one, leaves_in}
use Rattle.prism_items.specs.Parts.{in_scope, closed_by, closed_expression}
use Rattle.prism_items.proofs.Leading.{begin, followed, step_to, halt_at}
use Rattle.prism_items.proofs.closed.parse_closed.Goals as goal

pub returns-in_err-value : goal.returns-in_err-value
unfolding closed_by
returns-in_err-value c = leaves_in _ _ _ _ _ _ c.from_residual.ensures (λ s. halt_at _ _ s (begin (in_scope (closed_expression c.args.closing) s) none _) (λ _. then_word (token_word _) (λ _. gives_word _)) (token_follows goes_on (K.Symbol c.args.closing) _ none c.requires) _ (c.in_err-value.ensures s))

pub returns : goal.returns
unfolding closed_by
returns c =
    followed tree (in_scope (closed_expression c.args.closing)) _ (K.Symbol c.args.closing) c.in_ok-value.value _ _ c.read_symbol.result c.followed_by.result
    (λ s. step_to _ _ (begin (in_scope (closed_expression c.args.closing) s) none _) (expressions_one s) (token_follows goes_on (K.Symbol c.args.closing) _ none c.requires) (c.in_ok-value.ensures s))
    c.read_symbol.ensures c.followed_by.ensures
