use Rattle.std.specs.Prelude.{map}
use Rattle.std.specs.List.{find}
use Rattle.std.specs.Option.{option_map}
use Rattle.std.proofs.Common.{◌∙◌, ap}
use Rattle.prism_tree.specs.Syntax.{const_of}
use Rattle.op_trees.specs.Names.{is_called}
use Rattle.prism_check.proofs.variables.declarations.Goals as goal

pub returns : goal.returns
returns c =
    let constants = rw c.in_ok-constants.ensures.ok.0 at c.constant_types-constants.ensures in
    record {
      constants = λ x. constants x ∙ ap (λ cs. option_map (λ k. k.ty) (find (λ k. is_called x k.name) (map const_of cs))) c.as_slice.ensures;
      variables = rw c.in_ok-constants.ensures.ok.1 at c.owned_variables.ensures;
    }
