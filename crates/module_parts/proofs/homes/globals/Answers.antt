use Rattle.std.proofs.Common.{◌≡◌, ◌∙◌, ap, map, subst, List}
use Rattle.std.specs.Prelude.{IfOk}
use Rattle.prism_tree.specs.Syntax as prism
use Rattle.edge_tables.specs.Elements.{Lasting}
use Rattle.edge_tables.specs.Parts.{variable}
use Rattle.module_parts.specs.Code.{file_in, names_in, lasting_of}
use Rattle.module_parts.proofs.homes.globals.Goals as goal

pub returns : goal.returns
returns c =
    let n = c.args.names.now in
    subst (λ (l : List Lasting). IfOk c.variables.result (λ all. map prism.var_of all ≡ map (variable (file_in n) (names_in n)) l)) (ap (map lasting_of) c.as_slice.ensures.value ∙ c.in_ok-shared.ensures) c.variables.ensures
