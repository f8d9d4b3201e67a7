use Rattle.std.proofs.Common.{◌∙◌, w64}
use Rattle.std.proofs.lemmas.Int.{to_z-of_z}
use Rattle.frac_core.proofs.Parts.{shared_pos, den-shared_pos}
use Rattle.process_texts.proofs.Ratios.{answered, wide_top, wide_below}
use Rattle.process_texts.proofs.given.ratio.Goals as goal

pub nonzero_div-top : goal.nonzero_div-top
nonzero_div-top c = shared_pos c.args.n c.args.d c.gcd_of-common.result c.requires c.gcd_of-common.ensures

pub nonzero_div-below : goal.nonzero_div-below
nonzero_div-below c = shared_pos c.args.n c.args.d c.gcd_of-common.result c.requires c.gcd_of-common.ensures

pub returns-then-top : goal.returns-then-top
returns-then-top c = wide_top c.args.minus c.args.n c.args.d c.gcd_of-common.result c.requires c.gcd_of-common.ensures c.if-top.true

pub returns-then-below : goal.returns-then-below
returns-then-below c = wide_below c.args.minus c.args.n c.args.d c.gcd_of-common.result c.requires c.gcd_of-common.ensures c.if-below.true

pub returns : goal.returns
returns c =
    c.new.ensures
    ∙ answered c.args.minus c.args.n c.args.d c.gcd_of-common.result _ _ c.requires c.gcd_of-common.ensures
    (to_z-of_z w64 c.signed.result (record { sfits = c.signed.type_inv }) ∙ c.signed.ensures) (to_z-of_z w64 c.signed-2.result (record { sfits = c.signed-2.type_inv }) ∙ c.signed-2.ensures)
    (den-shared_pos c.args.n c.args.d c.gcd_of-common.result c.requires c.gcd_of-common.ensures)
