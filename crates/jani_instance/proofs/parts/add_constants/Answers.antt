use Rattle.std.proofs.Common.{◌∙◌, ap}
use Rattle.std.specs.Prelude.{Some, None, bytes_eq, if◌then◌else◌}
use Rattle.std.specs.Prelude.{map, take}
use Rattle.std.specs.Option.{option_or}
use Rattle.name_rules.specs.Names.{put_first, under}
use Rattle.instance_start.specs.declared.data.Place.TheVariants.{Constant}
use Rattle.jani_tree.specs.Syntax.{const_of}
use Rattle.op_trees.specs.Names.{is_called}
use Rattle.jani_instance.specs.Constants.{constant_place}
use Rattle.jani_instance.proofs.Placed.{option_or-assoc, placed_more}
use Rattle.std.proofs.Common.{refl}
use Rattle.jani_instance.proofs.parts.add_constants.Goals as goal

pub loop-k-preserved : goal.loop-k-preserved
loop-k-preserved c =
    let d = c.index-constants-k.result in
    λ x.
    let before = constant_place (map const_of (take c.loop-k.k c.args.constants.now)) x in
    let here = if bytes_eq d.name.name x then Some (Constant c.loop-k.k) else None in
    ap (λ f. f x) c.in_ok-put_first.ensures
    ∙ ap (λ n. put_first (under c.loop-k.places) n (Constant c.loop-k.k) x) c.as_str.ensures
    ∙ ap (λ o. option_or o here) (c.loop-k.invariant x)
    ∙ option_or-assoc (under c.args.places.now x) before here
    ∙ ap (option_or (under c.args.places.now x))
    (placed_more Constant (λ e. is_called x e.name) const_of c.args.constants.now c.loop-k.k d before (option_or before here) (bytes_eq d.name.name x) c.loop-k-test.true c.index-constants-k.is refl refl refl)
