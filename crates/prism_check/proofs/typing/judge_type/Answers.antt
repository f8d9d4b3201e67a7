use Rattle.std.specs.Prelude.{◌++◌, Bool}
use Rattle.std.proofs.Common.{◌∙◌, ap, ap₂}
use Rattle.bridge_io.specs.declared.reason.Reason.TheVariants.{WrongType}
use Rattle.op_trees.specs.Tree.{tree}
use Rattle.name_rules.specs.Least.{fault_if}
use Rattle.op_trees.specs.Wanted.{is_unwanted}
use Rattle.prism_check.specs.TypeFaults.{misfits}
use Rattle.prism_check.specs.Typing.{soonest_at, type_of, wrong}
use Rattle.prism_check.proofs.TypesPlaced.{at_then}
use Rattle.prism_check.proofs.typing.judge_type.Goals as goal

pub returns : goal.returns
returns c =
    let found = wrong (misfits (type_of c.args.names.now) (tree c.args.e.now)) in
    c.sooner_at.ensures
    ∙ at_then c.args.place c.args.best c.typed-found.result.best found (fault_if c.is_unwanted-unwanted.result c.offset_of.result WrongType)
    c.typed-found.ensures.best
    ∙ ap₂ (λ (b : Bool) k. soonest_at c.args.place c.args.best (found ++ fault_if b k WrongType))
    (c.is_unwanted-unwanted.ensures ∙ ap (is_unwanted c.args.wanted) c.typed-found.ensures.ty) c.offset_of.ensures
