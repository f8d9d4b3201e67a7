use Rattle.std.proofs.Common.{sym, ap, ◌∙◌, map, List}
use Rattle.std.specs.Prelude.{option_copied}
use Rattle.prism_exprs.specs.declared.tokens.Found.{Found}
use Rattle.prism_exprs.specs.Kept.{lexeme_at}
use Rattle.prism_parse.specs.Reasons.{unless_deep}
use Rattle.prop_reader.specs.Reasons.{in_query, behind_unbounded}
use Rattle.prop_reader.proofs.Places.{fault_at_end, fault_at_token}
use Rattle.prop_reader.proofs.reasons.fault_at.Goals as goal

pub returns-in_default : goal.returns-in_default
returns-in_default c = λ rest l stop.
    fault_at_end _ c.args.tokens.source.now.bytes.now c.args.tokens.source.now.literals.now c.args.tokens.found.now c.args.left c.saturating_sub-place.result rest c.args.cause c.saturating_sub-place.ensures l stop
    (rw (← c.split_at.ensures.back) (ap option_copied (sym c.in_default.is) ∙ c.first.ensures.value))

pub returns : goal.returns
returns c = λ rest l stop.
    fault_at_token _ c.args.tokens.source.now.bytes.now c.args.tokens.source.now.literals.now c.args.tokens.found.now c.args.left c.saturating_sub-place.result rest c.args.cause c.saturating_sub-place.ensures l stop
    c.in-Some.first.now c.in_query.result c.ends_unbounded.result c.unless_deep.result (rw (← c.split_at.ensures.back) (ap option_copied (sym c.in-Some.is) ∙ c.first.ensures.value))
    (c.in_query.ensures ∙ ap in_query c.with-front.ensures
    ∙ ap (λ (fs : List Found). in_query (map (lexeme_at c.args.tokens.source.now.bytes.now c.args.tokens.source.now.literals.now) fs)) c.split_at.ensures.front)
    (c.ends_unbounded.ensures ∙ ap behind_unbounded c.with-front.ensures
    ∙ ap (λ (fs : List Found). behind_unbounded (map (lexeme_at c.args.tokens.source.now.bytes.now c.args.tokens.source.now.literals.now) fs)) c.split_at.ensures.front)
    (c.unless_deep.ensures ∙ ap (unless_deep c.args.cause) c.kept_reason-reason.ensures)
