use Rattle.std.specs.Prelude.{[], ◌∷◌, ◌++◌, map, OnOk}
use Rattle.std.specs.List.{flat_map}
use Rattle.std.proofs.Common.{◌≡◌, ◌∙◌, sym, ap, subst}
use Rattle.prism_tree.specs.Syntax.{module_of, var_of}
use Rattle.prism_check.specs.Tables.{module_under, module_vars_by}
use Rattle.name_rules.specs.Names.{named_by}
use Rattle.prism_check.proofs.Declared.{each_name}
use Rattle.prism_check.proofs.values.add_module_vars.Goals as goal

pub returns-in-Plain : goal.returns-in-Plain
returns-in-Plain c =
    subst (λ e. OnOk c.add_names_of.result (map named_by c.add_names_of.new.list.items ≡ map named_by c.args.list.now.items ++ module_vars_by (module_under c.args.modules.now) (module_of e)))
    (sym c.in-Plain.is)
    (subst (λ zs. OnOk c.add_names_of.result (map named_by c.add_names_of.new.list.items ≡ map named_by c.args.list.now.items ++ zs))
    (ap (flat_map (λ x. x.name ∷ [])) c.as_slice.ensures ∙ each_name (λ x. x.name) var_of c.in-Plain.m.vars)
    c.add_names_of.ensures)
