use Rattle.std.specs.Prelude.{ℕ, List, [], map, OnOk, Some}
use Rattle.std.specs.Option.{option_or}
use Rattle.std.proofs.Common.{◌≡◌, ◌∙◌, sym, ap, ap₂, subst}
use Rattle.std.proofs.Math.Path.{fun_ext}
use Rattle.prism_tree.specs.Syntax.{module_of, var_of}
use Rattle.name_rules.specs.Names.{under}
use Rattle.prism_check.specs.Tables.{module_under, pair_for, vars_in}
use Rattle.prism_check.specs.TypeFaults.{Variable}
use Rattle.prism_check.specs.Typing.{module_variables_by, owned_in, variables_by}
use Rattle.prism_check.proofs.variables.add_module.Goals as goal

pub returns-in-Plain : goal.returns-in-Plain
returns-in-Plain c =
    let added : List Variable → Type 0 = λ vs. OnOk c.add_unchanged.result ((x : List ℕ) → under c.add_unchanged.new.table x ≡ option_or (under c.args.table.now x) (owned_in vs x)) in
    subst added
    (ap (λ xs. variables_by (pair_for []) (Some c.args.number) (map var_of xs)) c.as_slice.ensures
    ∙ ap (λ e. module_variables_by (module_under c.args.modules.now) c.args.number (module_of e)) (sym c.in-Plain.is))
    c.add_unchanged.ensures

pub returns-in_ok-renaming-in-Copied : goal.returns-in_ok-renaming-in-Copied
returns-in_ok-renaming-in-Copied c =
    let called = module_under c.args.modules.now in
    let added : List Variable → Type 0 = λ vs. OnOk c.add_variables-added.result ((x : List ℕ) → under c.add_variables-added.new.table x ≡ option_or (under c.args.table.now x) (owned_in vs x)) in
    subst added
    (ap₂ (λ f xs. variables_by f (Some c.args.number) xs) (fun_ext c.in_ok-renaming-in-Copied.ensures ∙ ap pair_for c.as_slice-in-Copied.ensures)
    (c.vars_in.ensures ∙ ap vars_in (c.called-from.ensures ∙ ap called c.as_str.ensures))
    ∙ ap (λ e. module_variables_by called c.args.number (module_of e)) (sym c.in-Copied.is))
    c.add_variables-added.ensures
