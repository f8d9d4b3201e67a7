use Rattle.std.specs.Prelude.{map}
use Rattle.std.specs.Option.{option_map, option_or}
use Rattle.std.proofs.Common.{ap, arith}
use Rattle.name_rules.proofs.Maps.{at}
use Rattle.prop_to_jani.specs.Code.{found, new_in}
use Rattle.prop_to_jani.proofs.Lookups.{found_all, found_more}
use Rattle.prop_to_jani.proofs.tables.name_map.Goals as goal

pub returns : goal.returns
returns c = λ x.
    found_all c.args.olds.now c.args.news.now _ c.shorter-i-end.result c.loop-i.i (new_in c.loop-i.all x) x (omega arith) (omega arith) (c.loop-i.invariant x)

pub loop-i-init : goal.loop-i-init
loop-i-init c = λ x. ap (λ o. option_or (option_map (λ k. k.now) o) (found (map (λ y. y.now) c.args.olds.now) c.args.news.now x)) (at c.new-all.ensures x)

pub loop-i-preserved : goal.loop-i-preserved
loop-i-preserved c = λ x.
    found_more c.args.olds.now c.args.news.now c.loop-i.i c.index-olds-i.result c.index-news-i.result _ _ _ _ _ x (omega arith) (omega arith) c.index-olds-i.is c.index-news-i.is
    (at c.in_ok-put_first.ensures x) c.as_str-old.ensures c.as_str.ensures (c.loop-i.invariant x)
