use Rattle.std.specs.Prelude.{◌++◌, map, length, IfOk}
use Rattle.std.specs.List.{flat_map, list_any}
use Rattle.std.proofs.Common.{◌≡◌, ◌∙◌, ap, ap₂, subst}
use Rattle.op_trees.specs.Tree.{written_out}
use Rattle.prism_check.specs.Demands.{var_demands, command_demands}
use Rattle.prism_check.specs.Levels.{lost_in}
use Rattle.prism_check.specs.NameFaults.{some_used}
use Rattle.prism_check.specs.Tables.{body_in}
use Rattle.prism_check.specs.Views.{demand_by}
use Rattle.prism_check.proofs.scope.contents_lose_name.Goals as goal

pub returns : goal.returns
returns c =
    let fs = c.args.formulas.now in
    subst (λ ds. IfOk c.loses_name.result (λ b. b ≡ list_any (some_used (lost_in c.args.reading.now) (written_out (body_in fs) (length fs))) ds))
    (ap (map demand_by) c.deref.ensures.value ∙ c.in_ok-demands.ensures
    ∙ ap₂ (λ xs cs. flat_map var_demands xs ++ flat_map command_demands cs) c.vars_in.ensures c.commands_in.ensures)
    c.loses_name.ensures
