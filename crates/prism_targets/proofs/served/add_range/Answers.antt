use Rattle.std.specs.Prelude.{◌≡◌, ℕ, List, ◌++◌, ◌∷◌, [], ◌+◌, ◌-◌}
use Rattle.std.specs.List.{range_with_len}
use Rattle.std.proofs.Common.{◌∙◌, ap, sym, append_assoc, arith}
use Rattle.gathering.proofs.Loops.{range_more}
use Rattle.prism_targets.proofs.served.add_range.Goals as goal

pub loop-number-preserved : goal.loop-number-preserved
loop-number-preserved c =
    let first = c.args.row.now.first in
    let on : c.loop-number.number + 1 - first ≡ (c.loop-number.number - first) + 1 = omega (arith, c.loop-number.auto.number) in
    let at : first + (c.loop-number.number - first) ≡ c.loop-number.number = omega (arith, c.loop-number.auto.number) in
    record {
      within = omega (arith, c.loop-number-test.true);
      numbers =
          c.in_ok-push.ensures.items
          ∙ ap (λ (l : List ℕ). l ++ c.loop-number.number ∷ []) c.loop-number.invariant.numbers
          ∙ append_assoc c.args.all.now.items (range_with_len first (c.loop-number.number - first)) (c.loop-number.number ∷ [])
          ∙ ap (λ (l : List ℕ). c.args.all.now.items ++ l)
          (ap (λ (n : ℕ). range_with_len first (c.loop-number.number - first) ++ n ∷ []) (sym at) ∙ sym (range_more first (c.loop-number.number - first)) ∙ ap (range_with_len first) (sym on));
    }

pub returns : goal.returns
returns c =
    c.loop-number.invariant.numbers
    ∙ ap (λ (n : ℕ). c.args.all.now.items ++ range_with_len c.args.row.now.first n)
    (omega (arith, c.loop-number.auto.number, c.loop-number.invariant.within, c.loop-number-test.false))
