use Rattle.std.specs.Prelude.{map}
use Rattle.std.specs.List.{position_from}
use Rattle.std.specs.Option.{option_or}
use Rattle.std.proofs.Common.{◌∙◌, ap, sym}
use Rattle.name_rules.specs.Names.{under}
use Rattle.name_rules.proofs.Maps.{at}
use Rattle.prism_tree.specs.Syntax.{rewards_of}
use Rattle.prop_trees.specs.PrismFaults.{is_titled}
use Rattle.prop_check.proofs.Placing.{from_nought, placed_all, placed_more}
use Rattle.prop_check.proofs.structures.places.Goals as goal

pub loop-place-init : goal.loop-place-init
loop-place-init c = λ x. ap (λ o. option_or o (position_from (is_titled x) 0 (map rewards_of c.args.all.now))) (at c.new-places.ensures x)

pub loop-place-preserved : goal.loop-place-preserved
loop-place-preserved c = λ x.
    placed_more (is_titled x) (under c.loop-place.places x) (under c.note.new.places x) _ c.args.all.now c.loop-place.place _
    c.loop-place-test.true c.index-all-place.is (c.in_ok-note.ensures x) (c.loop-place.invariant x)

pub returns : goal.returns
returns c = λ x.
    placed_all (is_titled x) (under c.loop-place.places x) _ c.args.all.now c.loop-place.place c.loop-place-test.false (c.loop-place.invariant x)
    ∙ sym (from_nought (is_titled x) (map rewards_of c.args.all.now))
