use Rattle.bridge_io.specs.declared.reason.Named.{Named}
use Rattle.std.proofs.Common.{Option}
use Rattle.prism_exprs.specs.Reading.{none}
use Rattle.prism_exprs.proofs.Laws.{token_one}
use Rattle.prism_exprs.proofs.Outer.{leaves_in}
use Rattle.prism_items.specs.Parts.{in_scope, action_part, bracketed_action}
use Rattle.prism_items.proofs.Leading.{begin, step, halt, parses_by}
use Rattle.prism_items.proofs.Building.{action_word}
use Rattle.prism_items.proofs.modules.parse_brackets.Goals as goal

pub returns-in_err-_left : goal.returns-in_err-_left
returns-in_err-_left c = leaves_in _ _ _ _ _ _ c.from_residual.ensures (λ s. halt _ _ s (begin (in_scope bracketed_action s) none _) (λ _. action_word s) _ (c.in_err-_left.ensures s))

pub returns : goal.returns
returns c = parses_by (λ (x : Option Named). x) (in_scope bracketed_action) (in_scope action_part) none _ _ c.parse_action.result (λ s. step _ _ (begin (in_scope bracketed_action s) none _) (token_one _) (c.in_ok-_left.ensures s)) c.parse_action.ensures
