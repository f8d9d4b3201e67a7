use Rattle.std.proofs.Common.{◌∙◌, ap, map}
use Rattle.std.specs.Option.{option_or}
use Rattle.instance_start.specs.Columns.{column_of}
use Rattle.prism_tree.specs.Syntax.{const_of}
use Rattle.prism_instance.specs.Places.{column_place, constant_place}
use Rattle.prism_instance.proofs.places.places.Goals as goal

pub returns : goal.returns
returns c x =
    c.in_ok-add_constants.ensures x
    ∙ ap (λ o. option_or o (constant_place 0 (map const_of c.args.constants.now) x))
    (c.in_ok-add_columns.ensures x ∙ ap (λ f. option_or (f x) (column_place 0 (map column_of c.args.columns.now) x)) c.new-places.ensures)
