use Rattle.std.proofs.Common.{◌+◌, refl}
use Rattle.std.specs.Prelude.{ℕ}
use Rattle.gathering.specs.Lists.{list_for}
use Rattle.instance_start.specs.declared.data.Place.TheVariants.{Variable}
use Rattle.jani_meaning.specs.Elements.{is_own}
use Rattle.jani_instance.specs.Parts.{owned_at, place_under}
use Rattle.jani_instance.proofs.Placed.{placed_more}
use Rattle.jani_instance.proofs.parts.by_owner.Goals as goal

pub loop-k-preserved : goal.loop-k-preserved
loop-k-preserved c =
    let o = c.index-vars-k.result in
    let F = λ (n : ℕ). Variable (c.args.first + n) in
    λ i x. placed_more F (is_own i x) owned_at c.args.vars.now c.loop-k.k o (place_under x (list_for c.loop-k.all i)) _ (is_own i x (owned_at o)) c.loop-k-test.true c.index-vars-k.is (c.loop-k.invariant i x)
    (c.in_ok-add_own.ensures i x) refl
