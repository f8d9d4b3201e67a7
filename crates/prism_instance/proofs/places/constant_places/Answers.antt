use Rattle.std.proofs.Common.{◌∙◌, ap, map}
use Rattle.std.specs.Option.{option_or}
use Rattle.prism_tree.specs.Syntax.{const_of}
use Rattle.prism_instance.specs.Places.{constant_place}
use Rattle.prism_instance.proofs.places.constant_places.Goals as goal

pub returns : goal.returns
returns c x = c.in_ok-add_constants.ensures x ∙ ap (λ f. option_or (f x) (constant_place 0 (map const_of c.args.constants.now) x)) c.new-places.ensures
