use Rattle.std.specs.Prelude.{map}
use Rattle.prism_lex.specs.declared.token.TokenKind.TheVariants as K
use Rattle.prism_lex.specs.declared.symbols.Symbol.TheVariants as S
use Rattle.prism_tree.specs.Syntax.{branch_of}
use Rattle.prism_exprs.specs.Reading.{none}
use Rattle.prism_exprs.proofs.Laws.{token_word, then_word, gives_word}
use Rattle.prism_exprs.proofs.Outer.{leaves_in}
use Rattle.prism_items.specs.Parts.{in_scope, closed_by, ended_branches}
use Rattle.prism_items.proofs.Leading.{begin, followed, step_to, halt_at}
use Rattle.prism_items.proofs.Updating.{several_branches_one, several_follows}
use Rattle.prism_items.proofs.updates.parse_ended_branches.Goals as goal

pub returns-in_err-branches : goal.returns-in_err-branches
unfolding closed_by
returns-in_err-branches c = leaves_in _ _ _ _ _ _ c.from_residual.ensures (λ s. halt_at _ _ s (begin (in_scope ended_branches s) none _) (λ _. then_word (token_word _) (λ _. gives_word _)) (several_follows s) _ (c.in_err-branches.ensures s))

pub returns : goal.returns
unfolding closed_by
returns c =
    followed (map branch_of) (in_scope ended_branches) _ (K.Symbol S.Semicolon) c.in_ok-branches.branches _ _ c.read_symbol.result c.followed_by.result
    (λ s. step_to _ _ (begin (in_scope ended_branches s) none _) (several_branches_one s) (several_follows s) (c.in_ok-branches.ensures s))
    c.read_symbol.ensures c.followed_by.ensures
