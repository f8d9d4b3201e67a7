use Rattle.std.proofs.Common.{refl}
use Rattle.std.specs.Borrow.{Bor}
use Rattle.prism_tree.specs.declared.syntax.PrismVar.{PrismVar}
use Rattle.prism_tree.specs.Syntax.{var_of}
use Rattle.state_choices.proofs.Gathered.{map_after}
use Rattle.prism_instance.specs.Variables.{vars_of}
use Rattle.prism_instance.proofs.variables.add_variables.Goals as goal

pub loop-variable-preserved : goal.loop-variable-preserved
loop-variable-preserved c =
    map_after (λ (x : Bor PrismVar). var_of x.now) var_of (vars_of c.args.all.now.items) c.args.variables.now c.loop-variable.variable-index c.variable-item.result
    c.loop-variable.all.items c.push.new.self.items _ c.loop-variable-test.true c.variable-item.is c.loop-variable.invariant c.in_ok-push.ensures.items refl
