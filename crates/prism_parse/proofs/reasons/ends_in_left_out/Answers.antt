use Rattle.std.proofs.Common.{sym, ◌∙◌}
use Rattle.prism_parse.proofs.Places.{ends_seen}
use Rattle.prism_parse.proofs.reasons.ends_in_left_out.Goals as goal

pub returns-in-Some : goal.returns-in-Some
returns-in-Some c = c.is_left_out_name.ensures ∙ sym (ends_seen _ _ _ c.in-Some.field-0-1.now c.in-Some.last.now c.in-Some.ensures.cases.0)
