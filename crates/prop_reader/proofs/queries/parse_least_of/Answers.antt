use Rattle.prism_lex.specs.declared.words.Reserved.TheVariants as W
use Rattle.prism_exprs.proofs.Laws.{gives_word, gives_reads}
use Rattle.prism_exprs.proofs.Outer.{leaves_in}
use Rattle.prism_items.proofs.Leading.{step, halt}
use Rattle.prop_reader.proofs.Pieces
use Rattle.prop_reader.proofs.Choices
use Rattle.prop_reader.proofs.queries.parse_least_of.Goals as goal

pub returns-in_err-_least : goal.returns-in_err-_least
returns-in_err-_least c = λ n. leaves_in _ _ _ _ _ _ c.from_residual.ensures (λ s. halt _ _ s (Choices.least_here s n c.args.structure _) (λ t. (Pieces.asking_reach s n _).word) _ (c.in_err-_least.ensures s))

pub returns-in_err-path : goal.returns-in_err-path
returns-in_err-path c = λ n. leaves_in _ _ _ _ _ _ c.from_residual-in_err-path.ensures (λ s. halt _ _ s (step _ _ (Choices.least_here s n c.args.structure _) (Pieces.asks W.Min).one (c.in_ok-_least.ensures s)) (λ p. gives_word _) _ (c.in_err-path.ensures s))

pub returns : goal.returns
returns c = λ n s. (step _ _ (step _ _ (Choices.least_here s n c.args.structure _) (Pieces.asks W.Min).one (c.in_ok-_least.ensures s)) (Pieces.bracketed_reach s).one (c.in_ok-path.ensures s)).reads _ _ (gives_reads _ _)
