use Rattle.prism_tree.specs.Grammar.{weighted}
use Rattle.prism_tree.specs.Syntax.{branch_of}
use Rattle.prism_exprs.proofs.Laws.{token_one}
use Rattle.prism_exprs.proofs.Outer.{leaves_in}
use Rattle.prism_items.specs.Parts.{in_scope, further_branch, writes_on}
use Rattle.prism_items.proofs.Leading.{begin, step, halt, parses_by}
use Rattle.prism_items.proofs.Updating.{weighted_word}
use Rattle.prism_items.proofs.updates.parse_further_branch.Goals as goal

pub returns-in_err-_plus : goal.returns-in_err-_plus
returns-in_err-_plus c = leaves_in _ _ _ _ _ _ c.from_residual.ensures (λ s. halt _ _ s (begin (in_scope further_branch s) writes_on _) (λ _. weighted_word s) _ (c.in_err-_plus.ensures s))

pub returns : goal.returns
returns c = parses_by branch_of (in_scope further_branch) (in_scope weighted) writes_on _ _ c.parse_weighted.result (λ s. step _ _ (begin (in_scope further_branch s) writes_on _) (token_one _) (c.in_ok-_plus.ensures s)) c.parse_weighted.ensures
