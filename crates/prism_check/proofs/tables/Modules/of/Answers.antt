use Rattle.std.specs.Option.{option_map, option_or}
use Rattle.std.proofs.Common.{refl, ap}
use Rattle.prism_tree.specs.Syntax.{module_of}
use Rattle.prism_flat.specs.Names.{module_name}
use Rattle.name_rules.specs.Names.{under}
use Rattle.name_rules.proofs.Maps.{at}
use Rattle.prism_check.specs.Tables.{named_module}
use Rattle.prism_check.proofs.First.{first_more}
use Rattle.prism_check.proofs.tables.Modules.of.Goals as goal

pub loop-entry-init : goal.loop-entry-init
loop-entry-init c = λ x. ap (λ o. option_or (option_map (λ m. module_of m.now) o) (named_module c.args.modules.now x)) (at c.new-first.ensures x)

pub loop-entry-preserved : goal.loop-entry-preserved
loop-entry-preserved c = λ q.
    first_more module_of (λ m. (module_name m).name) (option_map (λ m. module_of m.now)) (λ o. o) refl (λ z. refl)
    (under c.loop-entry.first) (under c.put_first.new.self) q _ _ c.args.modules.now c.loop-entry.entry-index c.entry-item.result
    c.loop-entry-test.true c.entry-item.is c.name_of.ensures refl c.in_ok-put_first.ensures (c.loop-entry.invariant q)
