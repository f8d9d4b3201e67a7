use Rattle.prism_exprs.specs.Reading.{none}
use Rattle.prism_exprs.proofs.Laws.{token_one, gives_word, gives_reads, then_word}
use Rattle.prism_exprs.proofs.Outer.{leaves_in}
use Rattle.prism_items.proofs.Leading.{begin, step, halt}
use Rattle.prop_grammar.specs.Grammar.{asks}
use Rattle.prop_reader.proofs.Pieces.{question}
use Rattle.prop_reader.proofs.readers.read_asked.Goals as goal

pub returns-in_err-word : goal.returns-in_err-word
unfolding asks
returns-in_err-word c = leaves_in _ _ _ _ _ _ c.from_residual.ensures (λ s. halt _ _ s (begin (asks c.args.wanted) none _) (λ _. then_word question.word (λ _. gives_word _)) _ (c.in_err-word.ensures s))

pub returns-in_err-rest : goal.returns-in_err-rest
unfolding asks
returns-in_err-rest c = leaves_in _ _ _ _ _ _ c.from_residual-in_err-rest.ensures (λ s. halt _ _ s (step _ _ (begin (asks c.args.wanted) none _) (token_one _) (c.in_ok-word.ensures s)) (λ _. gives_word _) _ (c.in_err-rest.ensures s))

pub returns : goal.returns
unfolding asks
returns c = λ s. (step _ _ (step _ _ (begin (asks c.args.wanted) none _) (token_one _) (c.in_ok-word.ensures s)) question.unique (c.in_ok-rest.ensures s)).reads _ _ (gives_reads _ _)
