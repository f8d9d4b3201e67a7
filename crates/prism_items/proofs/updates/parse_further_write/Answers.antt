use Rattle.prism_tree.specs.Grammar.{write}
use Rattle.prism_tree.specs.Syntax.{write_of}
use Rattle.prism_exprs.specs.Reading.{none}
use Rattle.prism_exprs.proofs.Laws.{token_one}
use Rattle.prism_exprs.proofs.Outer.{leaves_in}
use Rattle.prism_items.specs.Parts.{in_scope, further_write}
use Rattle.prism_items.proofs.Leading.{begin, step, halt, parses_by}
use Rattle.prism_items.proofs.Updating.{write_word}
use Rattle.prism_items.proofs.updates.parse_further_write.Goals as goal

pub returns-in_err-_and : goal.returns-in_err-_and
returns-in_err-_and c = leaves_in _ _ _ _ _ _ c.from_residual.ensures (λ s. halt _ _ s (begin (in_scope further_write s) none _) (λ _. write_word s) _ (c.in_err-_and.ensures s))

pub returns : goal.returns
returns c = parses_by write_of (in_scope further_write) (in_scope write) none _ _ c.parse_write.result (λ s. step _ _ (begin (in_scope further_write s) none _) (token_one _) (c.in_ok-_and.ensures s)) c.parse_write.ensures
