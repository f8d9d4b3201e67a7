use Rattle.std.specs.Prelude.{map}
use Rattle.std.specs.List.{flat_map}
use Rattle.std.proofs.Common.{refl}
use Rattle.prism_tree.specs.Syntax.{module_of}
use Rattle.name_rules.specs.Names.{named_by}
use Rattle.gathering.proofs.Loops.{flat_left, none_left}
use Rattle.prism_check.specs.Tables.{module_under, module_vars_by}
use Rattle.prism_check.proofs.values.add_all_vars.Goals as goal

pub loop-entry-preserved : goal.loop-entry-preserved
loop-entry-preserved c =
    flat_left (module_vars_by (module_under c.args.modules.now)) module_of _ (map named_by c.loop-entry.list.items) (map named_by c.add_module_vars.new.list.items) c.args.all.now
    c.loop-entry.entry-index c.entry-item.result c.loop-entry-test.true c.entry-item.is c.loop-entry.invariant c.in_ok-add_module_vars.ensures

pub returns : goal.returns
returns c =
    none_left (λ xs. flat_map (module_vars_by (module_under c.args.modules.now)) (map module_of xs)) _ (map named_by c.loop-entry.list.items) c.args.all.now c.loop-entry.entry-index refl c.loop-entry-test.false c.loop-entry.invariant
