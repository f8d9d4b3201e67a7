use Rattle.std.specs.Prelude.{ℕ, List, map, OnOk}
use Rattle.std.specs.Option.{option_or}
use Rattle.std.proofs.Common.{◌≡◌, ap, subst}
use Rattle.std.proofs.Math.Path.{fun_ext}
use Rattle.prism_tree.specs.Syntax.{var_of}
use Rattle.name_rules.specs.Names.{under}
use Rattle.prism_check.specs.TypeFaults.{Variable}
use Rattle.prism_check.specs.Typing.{owned_in, variables_by}
use Rattle.prism_check.proofs.variables.add_unchanged.Goals as goal

pub returns : goal.returns
returns c =
    let added : List Variable → Type 0 = λ vs. OnOk c.add_variables-added.result ((x : List ℕ) → under c.add_variables-added.new.table x ≡ option_or (under c.args.table.now x) (owned_in vs x)) in
    subst added (ap (λ f. variables_by f c.args.owner (map var_of c.args.vars.now)) (fun_ext c.in_ok-unchanged.ensures)) c.add_variables-added.ensures
