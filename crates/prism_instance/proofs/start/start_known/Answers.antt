use Rattle.std.proofs.Common.{◌∙◌, ap, map, length, subst, sym}
use Rattle.std.proofs.lemmas.List.{length-map}
use Rattle.std.specs.Option.{option_or}
use Rattle.instance_start.specs.Columns.{column_at, column_of}
use Rattle.prism_instance.specs.Knowing.{IsFixed}
use Rattle.prism_instance.specs.Places.{column_place, constant_place}
use Rattle.prism_instance.proofs.StartLaws.{writes_are}
use Rattle.prism_instance.proofs.start.start_known.Goals as goal

pub what_is_fixed-requires : goal.what_is_fixed-requires
what_is_fixed-requires c x =
    let file = c.args.flat.now in
    let cols = c.args.known.columns.items in
    ap (column_at (length cols)) (c.requires.known.places x)
    ∙ ap (λ n. column_at n (option_or (column_place 0 (map column_of cols) x) (constant_place 0 file.constants x))) (sym (length-map cols column_of))
    ∙ writes_are (map column_of cols) file.constants x

pub instance_of-requires-clause-fixed : goal.instance_of-requires-clause-fixed
instance_of-requires-clause-fixed c = subst (λ f. IsFixed f c.args.known c.in_ok-fixed.fixed) c.file.ensures.tree c.in_ok-fixed.ensures
