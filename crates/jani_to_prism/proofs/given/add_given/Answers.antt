use Rattle.std.proofs.Common.{◌++◌, ◌∙◌, ap, map, refl, arith, ℕ, List}
use Rattle.std.specs.List.{filter}
use Rattle.process_core.specs.Instance.{numbered}
use Rattle.jani_tree.specs.Syntax.{Location, location_of}
use Rattle.op_trees.specs.Names.{is_called}
use Rattle.gathering.proofs.Loops.{numbered_step, numbered_all}
use Rattle.gathering.specs.Lists.{list_under}
use Rattle.prism_modules.specs.Code.{element_of}
use Rattle.jani_to_prism.specs.Given.{given_of, given_with}
use Rattle.jani_to_prism.proofs.given.add_given.Goals as goal

pub loop-i-preserved : goal.loop-i-preserved
loop-i-preserved c = λ x.
    numbered_step (λ (i : ℕ) (k : Location). map (given_with (element_of c.args.el.now) i) (filter (λ w. is_called x w.target) k.values)) location_of _
    (map given_of (list_under c.loop-i.all x)) (map given_of (list_under c.add_location.new.all x)) _ c.locations-locations.result.now c.loop-i.i c.index-locations-i.result
    (omega arith) c.index-locations-i.is (c.loop-i.invariant x) refl (c.in_ok-add_location.ensures x)

pub returns : goal.returns
returns c = λ x.
    let f = λ (i : ℕ) (k : Location). map (given_with (element_of c.args.el.now) i) (filter (λ w. is_called x w.target) k.values) in
    numbered_all f location_of _ (map given_of (list_under c.loop-i.all x)) c.locations-locations.result.now c.loop-i.i (omega arith) (c.loop-i.invariant x)
    ∙ ap (λ (l : List Location). map given_of (list_under c.args.all.now x) ++ numbered f 0 l) c.locations-locations.ensures
