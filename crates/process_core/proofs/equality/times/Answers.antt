use Rattle.std.proofs.Common.{arith, ◌≡◌, ◌<◌, ℕ, ◌+◌, ◌^◌, List, Bool, count_by, length, take, take_all, length-take, Fits, w64, sym, ap, ◌∙◌}
use Rattle.std.proofs.lemmas.List.Sums.{count_by_more_yes, count_by_more_no, count_by-le-length}
use Rattle.process_core.specs.Equal.{equal_choices}
use Rattle.process_core.proofs.equality.times.Goals as goal
use Rattle.process_core.proofs.equality.times.Goals.{then-same_choice, else-same_choice}

-- A count of some of the items fits where their number does.
count_fits : {X : Type 0} (p : X → Bool) (xs : List X) (i count : ℕ) → count ≡ count_by p (take i xs) → i < length xs → length xs < 2 ^ 64 → Fits w64 (count + 1)
count_fits p xs i count is within small = omega (arith, count_by-le-length p (take i xs), length-take i xs)

pub overflow_add-count : goal.overflow_add-count
overflow_add-count c = count_fits _ _ _ _ c.loop-choice.invariant c.loop-choice-test.true c.as_slice-choice-items.type_inv.0

pub loop-choice-preserved : goal.loop-choice-preserved
loop-choice-preserved c =
    let p = equal_choices c.args.c.now in
    let xs = c.as_slice-choice-items.result.now in
    let i = c.loop-choice.choice-index in
    let here = ap p (sym c.choice-item.is) ∙ sym c.same_choice.ensures.test in
    elim c.if-same_choice.branch [
      | then-same_choice w ↦
          w.count-is ∙ ap (λ n. n + 1) c.loop-choice.invariant
          ∙ sym (count_by_more_yes p xs i c.choice-item.result c.loop-choice-test.true (here ∙ w.if-same_choice.true))
      | else-same_choice w ↦
          w.count-is ∙ c.loop-choice.invariant
          ∙ sym (count_by_more_no p xs i c.choice-item.result c.loop-choice-test.true (here ∙ w.if-same_choice.false))
    ]

pub returns : goal.returns
returns c = c.loop-choice.invariant ∙ ap (count_by (equal_choices c.args.c.now)) (take_all _ _ c.loop-choice-test.false ∙ c.as_slice-choice-items.ensures)
