use Rattle.std.specs.Prelude.{Some, map}
use Rattle.std.proofs.Common.{◌∙◌, sym, ap, arith}
use Rattle.jani_tree.specs.Syntax.{var_of}
use Rattle.jani_check.specs.Things.{is_reward}
use Rattle.name_rules.specs.Names.{under, put_first}
use Rattle.jani_props.specs.Faults.{number_among}
use Rattle.jani_props.proofs.Numbering.{counted_none, next_reward, next_other}
use Rattle.jani_props.proofs.model.structures.Goals as goal
use Rattle.jani_props.proofs.model.structures.Goals.{then-is_reward+in_ok-put_first, else-is_reward}

pub loop-var-init : goal.loop-var-init
loop-var-init c = (λ x. counted_none (under c.new-numbers.result) (map var_of c.args.vars.now) x (ap (λ f. f x) c.new-numbers.ensures), omega arith)

pub loop-var-preserved : goal.loop-var-preserved
loop-var-preserved c =
    let old = under c.loop-var.numbers in
    let whole = number_among (map var_of c.args.vars.now) in
    elim c.if-is_reward.branch [
      | then-is_reward+in_ok-put_first w ↦
          next_reward c.args.vars.now c.loop-var.var-index c.var-item.result old (under c.if-is_reward.numbers) whole c.loop-var.count c.if-is_reward.count c.loop-var-test.true c.var-item.is
          c.loop-var.invariant (sym (c.is_reward.ensures ∙ ap (λ t. is_reward (Some t)) c.var_thing.ensures) ∙ w.if-is_reward.true)
          (ap under w.numbers-is ∙ (w.in_ok-put_first.ensures ∙ ap (λ s. put_first old s c.loop-var.count) w.as_str.ensures)) w.count-is
      | else-is_reward w ↦
          next_other c.args.vars.now c.loop-var.var-index c.var-item.result old (under c.if-is_reward.numbers) whole c.loop-var.count c.if-is_reward.count c.loop-var-test.true c.var-item.is
          c.loop-var.invariant (sym (c.is_reward.ensures ∙ ap (λ t. is_reward (Some t)) c.var_thing.ensures) ∙ w.if-is_reward.false) (ap under w.numbers-is) w.count-is
    ]
