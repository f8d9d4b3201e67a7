use Rattle.std.proofs.Common.{◌∙◌, ◌+◌, sym, ap, map, drop, Some, None}
use Rattle.std.specs.Prelude.{bytes_eq, if◌then◌else◌}
use Rattle.std.specs.Option.{option_or}
use Rattle.basics.specs.Lists.{drop_item}
use Rattle.name_rules.specs.Names.{under}
use Rattle.prism_tree.specs.Syntax.{const_of}
use Rattle.instance_start.specs.declared.data.Place.TheVariants.{Constant}
use Rattle.prism_instance.specs.Places.{constant_place}
use Rattle.prism_instance.proofs.PlaceLaws.{place_more}
use Rattle.prism_instance.proofs.places.add_constants.Goals as goal

pub loop-i-preserved : goal.loop-i-preserved
loop-i-preserved c x =
    let i = c.loop-i.i in
    let rest = constant_place (i + 1) (map const_of (drop (i + 1) c.args.constants.now)) x in
    ap (λ f. option_or (f x) rest) c.in_ok-put_first.ensures
    ∙ ap (λ n. option_or (option_or (under c.loop-i.places x) (if bytes_eq n x then Some (Constant i) else None)) rest) c.as_str.ensures
    ∙ place_more (under c.loop-i.places x) (bytes_eq c.index-constants-i.result.name.name x) (Constant i) rest
    ∙ ap (λ l. option_or (under c.loop-i.places x) (constant_place i (map const_of l) x)) (sym (drop_item c.args.constants.now i c.index-constants-i.result c.loop-i-test.true c.index-constants-i.is))
    ∙ c.loop-i.invariant x
