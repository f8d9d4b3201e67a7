use Rattle.std.proofs.Common.{◌∙◌, ap, map}
use Rattle.std.specs.Option.{option_or}
use Rattle.jani_tree.specs.Syntax.{const_of}
use Rattle.jani_instance.specs.Constants.{constant_place}
use Rattle.jani_instance.proofs.start.constant_places.Goals as goal

pub returns : goal.returns
returns c = λ x. c.in_ok-add_constants.ensures x ∙ ap (λ f. option_or (f x) (constant_place (map const_of c.args.constants.now) x)) c.new-places.ensures
