use Rattle.std.specs.Prelude.{not}
use Rattle.std.proofs.Common.{◌∙◌, ap}
use Rattle.op_trees.specs.Tree.{tree}
use Rattle.op_trees.specs.Wanted.{is_wanted}
use Rattle.prop_trees.specs.Syntax.{role_of}
use Rattle.prop_check.proofs.Misfits.{of_misfit, of_type}
use Rattle.prop_check.proofs.types.judge_type.Goals as goal

pub returns-in-Ok : goal.returns-in-Ok
returns-in-Ok c =
    of_type c.args.scope.now.file (role_of c.args.role) (tree c.args.e.now) c.in-Ok.ty (not c.is_wanted-is_unwanted.result) c.offset_of.result c.args.best c.sooner_if.result
    c.in-Ok.ensures (ap not (c.is_wanted-is_unwanted.ensures ∙ ap (λ w. is_wanted w c.in-Ok.ty) c.wanted_of.ensures)) c.offset_of.ensures c.sooner_if.ensures

pub returns-in-Err : goal.returns-in-Err
returns-in-Err c =
    of_misfit c.args.scope.now.file (role_of c.args.role) (tree c.args.e.now) c.in-Err.at c.args.best c.sooner.result c.in-Err.ensures c.sooner.ensures
