use Rattle.std.proofs.Common.{◌∙◌, ◌++◌, ap, map}
use Rattle.std.specs.List.{flat_map}
use Rattle.process_core.specs.Instance.{numbered}
use Rattle.jani_tree.specs.Syntax.{location_of}
use Rattle.jani_instance.specs.Shapes.{giver_at}
use Rattle.jani_instance.specs.Transients.{gift_by}
use Rattle.jani_instance.proofs.transients.gifts_of_one.Goals as goal

pub returns : goal.returns
returns c = λ x.
    c.in_ok-add_element.ensures x
    ∙ ap (λ l. map giver_at l ++ numbered (λ n k. flat_map (gift_by x c.args.i n) k.values) 0 (map location_of c.args.locations.now)) (c.new-all.ensures x)
