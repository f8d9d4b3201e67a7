use Rattle.std.proofs.Common.{sym, ◌∙◌, arith}
use Rattle.prism_items.proofs.Filing.{none_left}
use Rattle.prop_reader.proofs.Limiting.{form_halts, before_read, before_longer, before_refused, front_before, something_left, opened, plain_stop, no_memory}
use Rattle.prop_reader.proofs.bounds.parse_before.Goals as goal

pub returns-then-not-symbol_next : goal.returns-then-not-symbol_next
returns-then-not-symbol_next c = form_halts _ _ (sym c.symbol_next.ensures ∙ c.if-not-symbol_next.true) c.requires.stopped

pub returns-then-is_empty : goal.returns-then-is_empty
returns-then-is_empty c = λ s.
    let parts = front_before c.args.tokens c.args.rest c.with.result _ _ c.requires.stopped c.saturating_sub-count.ensures c.split_at.ensures.front c.with.ensures in
    before_read s _ _ _ _ _ parts (opened _ (sym c.symbol_next.ensures ∙ c.if-not-symbol_next.false)) c.requires.stopped (c.in-Ok.ensures.read s) (none_left c.in-Ok.end (grind (arith, c.is_empty.ensures, c.if-is_empty.true)))

pub returns-else-is_empty : goal.returns-else-is_empty
returns-else-is_empty c =
    let parts = front_before c.args.tokens c.args.rest c.with.result _ _ c.requires.stopped c.saturating_sub-count.ensures c.split_at.ensures.front c.with.ensures in
    before_longer _ _ _ _ _ parts c.requires.stopped c.in-Ok.ensures.read (something_left c.in-Ok.end (λ e. grind (arith, c.is_empty.ensures, c.if-is_empty.false, e)))

pub returns-in-Form : goal.returns-in-Form
returns-in-Form c =
    let parts = front_before c.args.tokens c.args.rest c.with.result _ _ c.requires.stopped c.saturating_sub-count.ensures c.split_at.ensures.front c.with.ensures in
    before_refused _ _ _ c.in-Err-At.field-0 parts c.requires.stopped (plain_stop c.in-Err-At.field-0 _ _ _ c.in-Err-At.field-0-is c.in-Form.is tt) c.in-Err-At.ensures.read (λ e. no_memory _ _ (sym c.in-Err-At.field-0-is ∙ e))

pub returns-in-Deep : goal.returns-in-Deep
returns-in-Deep c =
    let parts = front_before c.args.tokens c.args.rest c.with.result _ _ c.requires.stopped c.saturating_sub-count.ensures c.split_at.ensures.front c.with.ensures in
    before_refused _ _ _ c.in-Err-At.field-0 parts c.requires.stopped (plain_stop c.in-Err-At.field-0 _ _ _ c.in-Err-At.field-0-is c.in-Deep.is tt) c.in-Err-At.ensures.read (λ e. no_memory _ _ (sym c.in-Err-At.field-0-is ∙ e))
