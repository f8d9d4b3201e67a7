use Rattle.bridge_io.specs.declared.reason.Named.{Named}
use Rattle.prism_tree.specs.Grammar.{name}
use Rattle.prism_exprs.specs.Reading.{none}
use Rattle.prism_exprs.proofs.Laws.{token_one}
use Rattle.prism_exprs.proofs.Outer.{leaves_in}
use Rattle.prism_items.specs.Parts.{in_scope, equal_name}
use Rattle.prism_items.proofs.Leading.{begin, step, halt, parses_by}
use Rattle.prism_items.proofs.Declaring.{name_word}
use Rattle.prism_items.proofs.modules.parse_equal_name.Goals as goal

pub returns-in_err-_equal : goal.returns-in_err-_equal
returns-in_err-_equal c = leaves_in _ _ _ _ _ _ c.from_residual.ensures (λ s. halt _ _ s (begin (in_scope equal_name s) none _) (λ _. name_word) _ (c.in_err-_equal.ensures s))

pub returns : goal.returns
returns c = parses_by (λ (x : Named). x) (in_scope equal_name) (λ s. name) none _ _ c.read_name.result (λ s. step _ _ (begin (in_scope equal_name s) none _) (token_one _) (c.in_ok-_equal.ensures s)) c.read_name.ensures
