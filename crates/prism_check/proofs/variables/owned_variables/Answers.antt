use Rattle.std.specs.Prelude.{ℕ, List, None}
use Rattle.std.proofs.Common.{◌≡◌, rules}
use Rattle.prism_check.specs.Tables.{module_under}
use Rattle.name_rules.specs.Names.{under}
use Rattle.name_rules.proofs.Maps.{at}
use Rattle.prism_check.proofs.Owners.{variables_are}
use Rattle.prism_check.proofs.variables.owned_variables.Goals as goal

pub returns : goal.returns
returns c =
    let none : (x : List ℕ) → under c.new-variables.result x ≡ None = at c.new-variables.ensures in
    variables_are c.args.file.now _ _ (module_under c.args.modules.now) (under c.new-variables.result)
    (under c.add_unchanged.new.table) (under c.add_all.new.table) c.as_slice.ensures c.as_slice-2.ensures c.requires none
    c.in_ok-add_unchanged.ensures c.in_ok-add_all.ensures
