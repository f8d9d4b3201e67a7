use Rattle.std.proofs.Common.{◌≡◌, pos, neg_ℤ, ◌-ℤ◌, ap, sym, ◌∙◌, arith, to_z, of_z, w64}
use Rattle.std.proofs.lemmas.Int.{to_z_pos, ints}
use Rattle.frac_core.specs.Fraction.{signed}
use Rattle.frac_core.proofs.Parts.{lowest_small, lowest_wide_size, lowest_wide_den}
use Rattle.frac_core.proofs.fraction.Frac.lowest.Goals as goal
use Rattle.frac_core.proofs.fraction.Frac.lowest.Goals.{then-negative, else-negative, else-size-lt-BOUND-via-then-size-lt-BOUND+else-den-lt-BOUND, else-size-lt-BOUND-via-else-size-lt-BOUND}

pub returns-after-negative : goal.returns-after-negative
returns-after-negative c =
    let den : to_z w64 c.args.den ≡ pos c.args.den = to_z_pos w64 c.args.den (omega arith) in
    let num : to_z w64 c.if-negative.result-bits ≡ signed c.args.negative c.args.size =
    elim c.if-negative.branch [
      | then-negative w ↦ let e : to_z w64 (of_z w64 (pos 0 -ℤ to_z w64 c.args.size)) ≡ neg_ℤ (pos c.args.size) = omega (arith, ints) in w.result-is ∙ e ∙ sym (ap (λ b. signed b c.args.size) w.if-negative.true)
      | else-negative w ↦ let e : to_z w64 c.args.size ≡ pos c.args.size = to_z_pos w64 c.args.size (omega arith) in w.result-is ∙ e ∙ sym (ap (λ b. signed b c.args.size) w.if-negative.false)
    ] in
    lowest_small c.args.negative c.args.size c.args.den _ _ c.requires.positive c.requires.apart (omega arith) (omega arith) num den

pub returns-else-size-lt-BOUND : goal.returns-else-size-lt-BOUND
returns-else-size-lt-BOUND c =
    elim c.else-size-lt-BOUND.branch [
      | else-size-lt-BOUND-via-then-size-lt-BOUND+else-den-lt-BOUND w ↦ lowest_wide_den c.args.negative c.args.size c.args.den c.requires.positive c.requires.apart (omega arith)
      | else-size-lt-BOUND-via-else-size-lt-BOUND w ↦ lowest_wide_size c.args.negative c.args.size c.args.den c.requires.positive c.requires.apart (omega arith)
    ]
