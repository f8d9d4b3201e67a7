use Rattle.std.proofs.Common.{sym, inl, inr}
use Rattle.process_texts.proofs.Ratios.{from_some, from_none, long_ratio, good_ratio, wide_ratio}
use Rattle.process_texts.proofs.given.read_ratio.Goals as goal

pub returns-in_default : goal.returns-in_default
returns-in_default c = λ v past r. from_none c.args.top.now (sym c.in_default.ensures) r.top

pub returns-in_default-digits_of : goal.returns-in_default-digits_of
returns-in_default-digits_of c = λ v past r. from_none c.args.below.now (sym c.in_default-digits_of.ensures) r.below

pub returns-then-n-ge-LIMIT : goal.returns-then-n-ge-LIMIT
returns-then-n-ge-LIMIT c = long_ratio c.args.minus c.args.top.now c.args.below.now c.in-Some.n c.in-Some-digits_of.d (from_some _ _ (sym c.in-Some.ensures)) (from_some _ _ (sym c.in-Some-digits_of.ensures)) c.if-d-eq0.false (inl c.if-n-ge-LIMIT.true)

pub returns-then-d-ge-LIMIT : goal.returns-then-d-ge-LIMIT
returns-then-d-ge-LIMIT c = long_ratio c.args.minus c.args.top.now c.args.below.now c.in-Some.n c.in-Some-digits_of.d (from_some _ _ (sym c.in-Some.ensures)) (from_some _ _ (sym c.in-Some-digits_of.ensures)) c.if-d-eq0.false (inr c.if-d-ge-LIMIT.true)

pub returns-in-Ok : goal.returns-in-Ok
returns-in-Ok c =
    good_ratio c.args.minus c.args.top.now c.args.below.now c.in-Some.n c.in-Some-digits_of.d (from_some _ _ (sym c.in-Some.ensures)) (from_some _ _ (sym c.in-Some-digits_of.ensures)) c.if-d-eq0.false c.if-n-ge-LIMIT.false c.if-d-ge-LIMIT.false
    c.in-Ok.x (sym c.in-Ok.ensures)

pub returns-in-Err : goal.returns-in-Err
returns-in-Err c =
    wide_ratio c.args.minus c.args.top.now c.args.below.now c.in-Some.n c.in-Some-digits_of.d (from_some _ _ (sym c.in-Some.ensures)) (from_some _ _ (sym c.in-Some-digits_of.ensures)) c.if-d-eq0.false c.if-n-ge-LIMIT.false c.if-d-ge-LIMIT.false
    c.in-Err.field-0 (sym c.in-Err.ensures)
