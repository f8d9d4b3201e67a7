use Rattle.std.proofs.Common.{◌∙◌, sym}
use Rattle.prism_tree.specs.Grammar.{reward}
use Rattle.prism_tree.specs.Syntax.{item_of}
use Rattle.prism_exprs.specs.Reading.{none}
use Rattle.prism_exprs.proofs.Outer.{leaves_in}
use Rattle.prism_items.specs.Parts.{gain, in_scope}
use Rattle.prism_items.proofs.Leading.{step, halt, parses_by}
use Rattle.prism_items.proofs.Closing.{grouping}
use Rattle.prism_items.proofs.Building.{brackets_one}
use Rattle.prism_items.proofs.Rewarding.{gain_word, reward_action, reward_state}
use Rattle.prism_tree.specs.declared.syntax.ItemOn.TheVariants.{InState}
use Rattle.prism_items.proofs.rewards.parse_reward.Goals as goal

pub returns-then-not-symbol_next : goal.returns-then-not-symbol_next
returns-then-not-symbol_next c = parses_by item_of (in_scope reward) (in_scope (gain InState)) none _ _ c.parse_gain.result (λ s. reward_state s _ (sym c.symbol_next.ensures ∙ c.if-not-symbol_next.true)) c.parse_gain.ensures

pub returns-in_err-action : goal.returns-in_err-action
returns-in_err-action c = leaves_in _ _ _ _ _ _ c.from_residual.ensures (λ s. halt _ _ s (grouping _ _ _ (reward_action s _ (sym c.symbol_next.ensures ∙ c.if-not-symbol_next.false))) (λ _. gain_word s _) _ (c.in_err-action.ensures s))

pub returns : goal.returns
returns c = parses_by item_of (in_scope reward) (in_scope (gain c.on_action.result)) none _ _ c.parse_gain-2.result (λ s. rw c.on_action.ensures (step _ _ (grouping _ _ _ (reward_action s _ (sym c.symbol_next.ensures ∙ c.if-not-symbol_next.false))) (brackets_one s) (c.in_ok-action.ensures s))) c.parse_gain-2.ensures
