use Rattle.prism_tree.specs.declared.syntax.NamePair.{NamePair}
use Rattle.prism_tree.specs.Grammar.{pair}
use Rattle.prism_exprs.specs.Reading.{none}
use Rattle.prism_exprs.proofs.Laws.{token_one}
use Rattle.prism_exprs.proofs.Outer.{leaves_in}
use Rattle.prism_items.specs.Parts.{in_scope, further_pair}
use Rattle.prism_items.proofs.Leading.{begin, step, halt, parses_by}
use Rattle.prism_items.proofs.Building.{pair_word}
use Rattle.prism_items.proofs.modules.parse_further_pair.Goals as goal

pub returns-in_err-_comma : goal.returns-in_err-_comma
returns-in_err-_comma c = leaves_in _ _ _ _ _ _ c.from_residual.ensures (λ s. halt _ _ s (begin (in_scope further_pair s) none _) (λ _. pair_word s) _ (c.in_err-_comma.ensures s))

pub returns : goal.returns
returns c = parses_by (λ (x : NamePair). x) (in_scope further_pair) (in_scope pair) none _ _ c.parse_pair.result (λ s. step _ _ (begin (in_scope further_pair s) none _) (token_one _) (c.in_ok-_comma.ensures s)) c.parse_pair.ensures
