use Rattle.std.proofs.Common.{sym, ap, ◌∙◌, map, List}
use Rattle.std.specs.Prelude.{option_copied}
use Rattle.prism_exprs.specs.declared.tokens.Found.{Found}
use Rattle.prism_exprs.specs.Kept.{lexeme_at}
use Rattle.prism_parse.specs.Reasons.{is_left_out_name, ends_with, unless_deep}
use Rattle.prism_parse.proofs.Places.{fault_at_end, fault_at_token}
use Rattle.prism_parse.proofs.reasons.fault_at.Goals as goal

pub returns-in_default : goal.returns-in_default
returns-in_default c = λ rest l stop.
    fault_at_end _ c.args.tokens.source.now.bytes.now c.args.tokens.source.now.literals.now c.args.tokens.found.now c.args.left c.saturating_sub-place.result rest c.args.cause c.saturating_sub-place.ensures l stop
    (rw (← c.split_at.ensures.back) (ap option_copied (sym c.in_default.is) ∙ c.first.ensures.value))

pub returns : goal.returns
returns c = λ rest l stop.
    fault_at_token _ c.args.tokens.source.now.bytes.now c.args.tokens.source.now.literals.now c.args.tokens.found.now c.args.left c.saturating_sub-place.result rest c.args.cause c.saturating_sub-place.ensures l stop
    c.in-Some.first.now c.ends_in_left_out.result c.unless_deep.result (rw (← c.split_at.ensures.back) (ap option_copied (sym c.in-Some.is) ∙ c.first.ensures.value))
    (c.ends_in_left_out.ensures ∙ ap (ends_with is_left_out_name) c.with.ensures
    ∙ ap (λ (fs : List Found). ends_with is_left_out_name (map (lexeme_at c.args.tokens.source.now.bytes.now c.args.tokens.source.now.literals.now) fs)) c.split_at.ensures.front)
    (c.unless_deep.ensures ∙ ap (unless_deep c.args.cause) c.kept_reason-reason.ensures)
