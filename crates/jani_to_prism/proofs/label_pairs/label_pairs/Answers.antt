use Rattle.std.proofs.Common.{◌∷◌, ◌++◌, [], ◌∙◌, ap, refl, arith}
use Rattle.basics.specs.Lists.{zip_none}
use Rattle.carry_maps.specs.declared.map.LabelPair.{LabelPair}
use Rattle.gathering.proofs.Loops.{paired_flat, paired_all}
use Rattle.jani_to_prism.specs.MapParts.{pair_with, pairs_with}
use Rattle.jani_to_prism.proofs.label_pairs.label_pairs.Goals as goal

pub loop-i-preserved : goal.loop-i-preserved
loop-i-preserved c =
    paired_flat pairs_with (λ e t. pair_with e t ∷ []) (λ e t es ts. refl) _ c.loop-i.all c.push.new.self c.args.entries.now c.args.made.now c.loop-i.i c.index-entries-i.result c.index-made-i.result
    (omega arith) (omega arith) c.index-entries-i.is c.index-made-i.is c.loop-i.invariant (c.in_ok-push.ensures.ok ∙ ap (λ (p : LabelPair). c.loop-i.all ++ p ∷ []) c.in_ok-pair.ensures)

pub returns : goal.returns
returns c =
    paired_all pairs_with (λ ts. refl) (λ es. zip_none pair_with es) (pairs_with c.args.entries.now c.args.made.now) c.loop-i.all c.args.entries.now c.args.made.now c.shorter-count.result c.loop-i.i
    c.shorter-count.ensures c.loop-i-test.false c.loop-i.invariant
