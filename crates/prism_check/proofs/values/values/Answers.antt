use Rattle.std.specs.Prelude.{map}
use Rattle.std.proofs.Common.{ap}
use Rattle.prism_check.specs.Tables.{module_under}
use Rattle.name_rules.specs.Names.{named_by}
use Rattle.prism_check.proofs.Declared.{values_is}
use Rattle.prism_check.proofs.values.values.Goals as goal

pub returns : goal.returns
returns c =
    values_is c.args.file.now _ _ _ _ (module_under c.args.modules.now) _ _ _ _ _
    c.as_slice.ensures c.as_slice-2.ensures c.as_slice-3.ensures c.as_slice-4.ensures c.requires
    (ap (map named_by) c.new-list.ensures.items)
    c.in_ok-add_names_of.ensures c.in_ok-add_names_of-2.ensures c.in_ok-add_names_of-3.ensures c.in_ok-add_all_vars.ensures
