use Rattle.std.proofs.Common.{◌≡◌, ◌≤◌, sym, subst, IfOk}
use Rattle.std.specs.Prelude.{codes}
use Rattle.std.proofs.lemmas.Option.{slice_get_within, get_or_from_slice_get}
use Rattle.process_texts.proofs.Commas.{begun, goes_on, ended, text_pushed}
use Rattle.process_texts.proofs.print.header_text.Goals as goal

pub loop-i-init : goal.loop-i-init
loop-i-init g c = begun _ _ c.new-out.ensures.bytes c.in_ok-push_str.ensures.bytes

pub loop-i-preserved : goal.loop-i-preserved
loop-i-preserved g c =
    let columns = (g.S.Steps.process c.args.s.now).columns in
    let e = c.in_ok-text.ensures in
    goes_on (codes "(") columns c.loop-i.i c.in_ok-text.text _ _ _ (slice_get_within columns c.loop-i.i c.in_ok-text.text e) (sym (get_or_from_slice_get columns c.loop-i.i c.in_ok-text.text c.in_ok-text.text e)) c.loop-i.invariant
    c.in_ok-push_comma.ensures (text_pushed _ _ _ _ c.in_ok-push_str-2.ensures.bytes c.as_str.ensures)

pub returns : goal.returns
returns g c =
    subst (λ w. IfOk c.from_string.result (λ t. t ≡ w))
    (ended (g.S.Steps.process c.args.s.now).columns c.loop-i.i _ _ (subst (λ n. n ≤ c.loop-i.i) c.columns-i-end.ensures c.loop-i-test.false) c.loop-i.invariant c.in_ok-push_str-3.ensures.bytes)
    c.from_string.ensures
