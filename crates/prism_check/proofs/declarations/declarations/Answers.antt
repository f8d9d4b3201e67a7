use Rattle.std.specs.Prelude.{◌++◌, map}
use Rattle.std.proofs.Common.{◌∙◌, ap, ap₂}
use Rattle.prism_tree.specs.Syntax.{const_of, formula_of}
use Rattle.name_rules.specs.Circles.{declared_by}
use Rattle.prism_check.specs.NameFaults.{declared_const, declared_formula}
use Rattle.prism_check.proofs.declarations.declarations.Goals as goal

pub returns : goal.returns
returns c =
    c.in_ok-add_formulas.ensures
    ∙ ap₂ (λ xs fs. xs ++ map declared_formula (map formula_of fs))
    (c.in_ok-add_constants.ensures
    ∙ ap₂ (λ xs cs. xs ++ map declared_const (map const_of cs)) (ap (map declared_by) c.in_ok-list.ensures.items) c.as_slice.ensures)
    c.as_slice-2.ensures
