use Rattle.std.proofs.Common.{◌∙◌, ◌+◌, sym, ap, map, drop, Some, None}
use Rattle.std.specs.Prelude.{bytes_eq, if◌then◌else◌}
use Rattle.std.specs.Option.{option_or}
use Rattle.basics.specs.Lists.{drop_item}
use Rattle.name_rules.specs.Names.{under}
use Rattle.instance_start.specs.Columns.{column_of}
use Rattle.instance_start.specs.declared.data.Place.TheVariants.{Variable}
use Rattle.prism_instance.specs.Places.{column_place}
use Rattle.prism_instance.proofs.PlaceLaws.{place_more}
use Rattle.prism_instance.proofs.places.add_columns.Goals as goal

pub loop-i-preserved : goal.loop-i-preserved
loop-i-preserved c x =
    let i = c.loop-i.i in
    let rest = column_place (i + 1) (map column_of (drop (i + 1) c.args.columns.now)) x in
    ap (λ f. option_or (f x) rest) c.in_ok-put_first.ensures
    ∙ ap (λ n. option_or (option_or (under c.loop-i.places x) (if bytes_eq n x then Some (Variable i) else None)) rest) c.as_str.ensures
    ∙ place_more (under c.loop-i.places x) (bytes_eq c.index-columns-i.result.name.now x) (Variable i) rest
    ∙ ap (λ l. option_or (under c.loop-i.places x) (column_place i (map column_of l) x)) (sym (drop_item c.args.columns.now i c.index-columns-i.result c.loop-i-test.true c.index-columns-i.is))
    ∙ c.loop-i.invariant x
