use Rattle.std.specs.Option.{option_map, option_or}
use Rattle.std.proofs.Common.{ap}
use Rattle.name_rules.specs.Names.{under}
use Rattle.name_rules.proofs.Maps.{at}
use Rattle.prism_check.specs.Tables.{pair_for}
use Rattle.prism_check.proofs.Pairs.{pair_more}
use Rattle.prism_check.proofs.tables.table_of.Goals as goal

pub loop-pair-init : goal.loop-pair-init
loop-pair-init c = λ x. ap (λ o. option_or (option_map (λ s. s.now) o) (pair_for c.args.pairs.now x)) (at c.new-table.ensures x)

pub loop-pair-preserved : goal.loop-pair-preserved
loop-pair-preserved c = λ q.
    pair_more (under c.loop-pair.table) (under c.put_first.new.self) q _ _ c.args.pairs.now c.loop-pair.pair-index c.pair-item.result
    c.loop-pair-test.true c.pair-item.is c.as_str.ensures c.as_str-in-loop-pair.ensures c.in_ok-put_first.ensures (c.loop-pair.invariant q)
