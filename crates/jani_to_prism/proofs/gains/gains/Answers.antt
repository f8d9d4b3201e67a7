use Rattle.std.proofs.Common.{◌++◌, ◌∙◌, ap, sym, map, refl, arith, ℕ, List}
use Rattle.process_core.specs.Instance.{numbered}
use Rattle.prism_targets.specs.Targets as spec
use Rattle.prism_targets.specs.declared.targets.Target.{Target}
use Rattle.prism_targets.specs.Serving.{target_in}
use Rattle.gathering.proofs.Loops.{numbered_step, numbered_all}
use Rattle.gathering.specs.Lists.{list_for}
use Rattle.prism_modules.specs.Code.{file_in}
use Rattle.jani_to_prism.specs.Gains.{gain_of, gains_of}
use Rattle.jani_to_prism.proofs.gains.gains.Goals as goal

pub loop-i-preserved : goal.loop-i-preserved
loop-i-preserved c = λ j.
    numbered_step (λ (i : ℕ) (t : spec.Target). gains_of (file_in c.args.names.now) j i t.maker) (target_in (file_in c.args.names.now)) _
    (map gain_of (list_for c.loop-i.all j)) (map gain_of (list_for c.add_target.new.all j)) _ c.args.made.now c.loop-i.i c.index-made-i.result
    (omega arith) c.index-made-i.is (c.loop-i.invariant j) refl (c.in_ok-add_target.ensures j ∙ ap (λ (m : Target). map gain_of (list_for c.loop-i.all j) ++ gains_of (file_in c.args.names.now) j c.loop-i.i (target_in (file_in c.args.names.now) m).maker) (sym c.index-made-i.is))

pub returns : goal.returns
returns c = λ j.
    let f = λ (i : ℕ) (t : spec.Target). gains_of (file_in c.args.names.now) j i t.maker in
    numbered_all f (target_in (file_in c.args.names.now)) _ (map gain_of (list_for c.loop-i.all j)) c.args.made.now c.loop-i.i (omega arith) (c.loop-i.invariant j)
    ∙ ap (λ (l : List spec.Target). numbered f 0 l) c.requires.targets
