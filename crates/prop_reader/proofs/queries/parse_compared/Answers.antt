use Rattle.prism_exprs.proofs.Laws.{gives_word, gives_reads}
use Rattle.prism_exprs.proofs.Outer.{leaves_in}
use Rattle.prism_items.proofs.Leading.{step, step_to, halt, halt_at}
use Rattle.prop_reader.proofs.Pieces
use Rattle.prop_reader.proofs.Choices
use Rattle.prop_reader.proofs.queries.parse_compared.Goals as goal

pub returns-in_err-compare : goal.returns-in_err-compare
returns-in_err-compare c = λ n. leaves_in _ _ _ _ _ _ c.from_residual.ensures (λ s. halt_at _ _ s (Choices.compared_here s n _ c.requires.other c.requires.another c.requires.third) (λ a. (Pieces.asking_path s n a).word) (Pieces.asking_follows s n) _ (c.in_err-compare.ensures s))

pub returns-in_err-path : goal.returns-in_err-path
returns-in_err-path c = λ n. leaves_in _ _ _ _ _ _ c.from_residual-in_err-path.ensures (λ s. halt _ _ s (step_to _ _ (Choices.compared_here s n _ c.requires.other c.requires.another c.requires.third) (Pieces.compared_probability s).one (Pieces.asking_follows s n) (c.in_ok-compare.ensures s)) (λ p. gives_word _) _ (c.in_err-path.ensures s))

pub returns : goal.returns
returns c = λ n s. (step _ _ (step_to _ _ (Choices.compared_here s n _ c.requires.other c.requires.another c.requires.third) (Pieces.compared_probability s).one (Pieces.asking_follows s n) (c.in_ok-compare.ensures s)) (Pieces.bracketed_path s).one (c.in_ok-path.ensures s)).reads _ _ (gives_reads _ _)
