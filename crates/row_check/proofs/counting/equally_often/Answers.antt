use Rattle.std.proofs.Common.{get_or, sym, ◌∙◌, arith, refl, []}
use Rattle.basics.specs.Members.{length_zip}
use Rattle.process_core.specs.Counts.{often_from_counts}
use Rattle.process_core.specs.Often.{often_count}
use Rattle.row_check.specs.Merging.{Sums, equal_sums, Keeps}
use Rattle.row_check.proofs.Compared.{zip_here, equal_sums_is, often_length, counts_at}
use Rattle.row_check.proofs.Counted.{times_told}
use Rattle.row_check.proofs.counting.equally_often.Goals as goal

pub returns-then-a-b : goal.returns-then-a-b
returns-then-a-b c = λ n ds es h k. (
  λ t. absurd cc,
  λ o.
      let a = length_zip (Keeps n) ds c.args.a.now h in
      let b = length_zip (Keeps n) es c.args.b.now k in
      let e = often_length o in
      absurd (c.if-a-b.true (sym a ∙ e ∙ b)),
)

pub returns-then-times : goal.returns-then-times
returns-then-times c = λ n ds es h k. (
  λ t. absurd cc,
  λ o.
      let i = c.loop-choice.choice-index in
      let x = c.choice-item.result in
      let key = c.in_ok-key.key in
      let d : Sums = record { label = x.label; sums = [] } in
      let f = zip_here (Keeps n) ds c.args.a.now i x h c.loop-choice-test.true c.choice-item.is d in
      let one = times_told n (get_or ds i d) x ds c.args.a.now c.in_ok-first.first.counts key c.times.result c.in_ok-first.ensures c.in_ok-key.ensures c.times.ensures f h in
      let two = times_told n (get_or ds i d) x es c.args.b.now c.in_ok-second.second.counts key c.times-in-loop-choice.result c.in_ok-second.ensures c.in_ok-key.ensures c.times-in-loop-choice.ensures f k in
      absurd (c.if-times.true (one ∙ often_count o (equal_sums (get_or ds i d)) ∙ sym two)),
)

pub loop-choice-preserved : goal.loop-choice-preserved
loop-choice-preserved c = λ n ds es h k j d l.
    let i = c.loop-choice.choice-index in
    let x = c.choice-item.result in
    let key = c.in_ok-key.key in
    let f = zip_here (Keeps n) ds c.args.a.now i x h c.loop-choice-test.true c.choice-item.is d in
    let one = times_told n (get_or ds i d) x ds c.args.a.now c.in_ok-first.first.counts key c.times.result c.in_ok-first.ensures c.in_ok-key.ensures c.times.ensures f h in
    let two = times_told n (get_or ds i d) x es c.args.b.now c.in_ok-second.second.counts key c.times-in-loop-choice.result c.in_ok-second.ensures c.in_ok-key.ensures c.times-in-loop-choice.ensures f k in
    counts_at ds es d i (λ m. c.loop-choice.invariant n ds es h k m d) (sym one ∙ c.if-times.false ∙ two) j l

pub returns : goal.returns
returns c = λ n ds es h k. (
  λ t.
      let a = length_zip (Keeps n) ds c.args.a.now h in
      let b = length_zip (Keeps n) es c.args.b.now k in
      often_from_counts equal_sums equal_sums_is ds es (a ∙ c.if-a-b.false ∙ sym b)
      (λ j d l. c.loop-choice.invariant n ds es h k j d (omega arith)),
  λ o. refl,
)
