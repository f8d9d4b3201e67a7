use Rattle.std.proofs.Common.{◌∙◌, ◌<◌, ◌^◌, ap, sym, arith, w64}
use Rattle.std.specs.Prelude.{pos}
use Rattle.std.proofs.lemmas.Int.{to_z_pos}
use Rattle.frac_core.specs.Fraction.{fraction}
use Rattle.frac_core.specs.Results.{narrow}
use Rattle.frac_core.specs.Laws.{times-fraction, times_unit}
use Rattle.jani_instance.proofs.columns.whole.Goals as goal

pub returns : goal.returns
returns c =
    let n = c.args.n in
    let h = c.if-n.false in
    c.new.ensures
    ∙ ap (λ z. narrow (fraction z 1)) (to_z_pos w64 n (let d : n < 2 ^ 63 = omega (arith, h) in d))
    ∙ ap narrow (sym (times_unit (fraction (pos n) 1)) ∙ times-fraction (pos n) 1 (let d : 0 < 1 = omega arith in d))
