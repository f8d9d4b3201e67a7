use Rattle.std.proofs.Common.{◌∙◌, ap₂}
use Rattle.std.specs.Prelude.{Bool, ℕ}
use Rattle.bridge_io.specs.declared.reason.Reason.TheVariants.{NotConstant}
use Rattle.name_rules.specs.Least.{fault_if, soonest}
use Rattle.prop_check.proofs.types.judge_constant.Goals as goal

pub returns : goal.returns
returns c = c.sooner_if.ensures ∙ ap₂ (λ (b : Bool) (at : ℕ). soonest c.args.best (fault_if b at NotConstant)) c.is_varying.ensures c.offset_of.ensures
