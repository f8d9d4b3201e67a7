use Rattle.std.proofs.Common.{◌∙◌, sym, Some, None}
use Rattle.prism_tree.specs.Grammar.{rewards_item}
use Rattle.prism_tree.specs.Syntax.{rewards_of}
use Rattle.prism_exprs.specs.Reading.{none}
use Rattle.prism_exprs.proofs.Laws.{token_one}
use Rattle.prism_exprs.proofs.Outer.{leaves_in}
use Rattle.prism_items.specs.Parts.{gains, in_scope}
use Rattle.prism_items.proofs.Leading.{begin, leads_on, step, halt, parses_by}
use Rattle.prism_items.proofs.Declaring.{quoted_one}
use Rattle.prism_items.proofs.Rewarding.{gains_word, titled_word, title_none, title_some, rewards-titled}
use Rattle.prism_items.proofs.Leading.{same_leads}
use Rattle.prism_items.proofs.rewards.parse_rewards.Goals as goal

pub returns-in_err-_rewards : goal.returns-in_err-_rewards
returns-in_err-_rewards c = leaves_in _ _ _ _ _ _ c.from_residual.ensures (λ s. halt _ _ s (leads_on (begin (in_scope rewards_item s) none _) (same_leads none _ (rewards-titled s))) (λ _. titled_word s) _ (c.in_err-_rewards.ensures s))

pub returns-then-not-quoted_next : goal.returns-then-not-quoted_next
returns-then-not-quoted_next c = parses_by rewards_of (in_scope rewards_item) (in_scope (gains None)) none _ _ c.parse_gains.result (λ s. title_none s (step _ _ (leads_on (begin (in_scope rewards_item s) none _) (same_leads none _ (rewards-titled s))) (token_one _) (c.in_ok-_rewards.ensures s)) (sym c.quoted_next.ensures ∙ c.if-not-quoted_next.true)) c.parse_gains.ensures

pub returns-in_err-name : goal.returns-in_err-name
returns-in_err-name c = leaves_in _ _ _ _ _ _ c.from_residual-in_err-name.ensures (λ s. halt _ _ s (title_some s (step _ _ (leads_on (begin (in_scope rewards_item s) none _) (same_leads none _ (rewards-titled s))) (token_one _) (c.in_ok-_rewards.ensures s)) (sym c.quoted_next.ensures ∙ c.if-not-quoted_next.false)) (λ _. gains_word s _) _ (c.in_err-name.ensures s))

pub returns : goal.returns
returns c = parses_by rewards_of (in_scope rewards_item) (in_scope (gains (Some c.in_ok-name.name))) none _ _ c.parse_gains-2.result (λ s. step _ _ (title_some s (step _ _ (leads_on (begin (in_scope rewards_item s) none _) (same_leads none _ (rewards-titled s))) (token_one _) (c.in_ok-_rewards.ensures s)) (sym c.quoted_next.ensures ∙ c.if-not-quoted_next.false)) (quoted_one) (c.in_ok-name.ensures s)) c.parse_gains-2.ensures
