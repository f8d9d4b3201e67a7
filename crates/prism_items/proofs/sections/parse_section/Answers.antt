use Rattle.std.proofs.Common.{◌∙◌, sym}
use Rattle.prism_exprs.proofs.Laws.{gives_word, gives_reads}
use Rattle.prism_exprs.proofs.Outer.{leaves_in}
use Rattle.prism_items.proofs.Leading.{step, halt}
use Rattle.prism_items.proofs.Declaring.{const_one, global_one, formula_one, label_one}
use Rattle.prism_items.proofs.Building.{module_one}
use Rattle.prism_items.proofs.Rewarding.{item_one as rewards_one}
use Rattle.prism_items.proofs.Sectioning.{const_leads, global_leads, formula_leads, module_leads, label_leads, rewards_leads}
use Rattle.prism_items.proofs.sections.parse_section.Goals as goal

pub returns-in_err-constant : goal.returns-in_err-constant
returns-in_err-constant c = leaves_in _ _ _ _ _ _ c.from_residual.ensures (λ s. halt _ _ s (const_leads s _ (sym c.word_next.ensures ∙ c.if-word_next.true)) (λ x. gives_word _) _ (c.in_err-constant.ensures s))

pub returns-then-word_next : goal.returns-then-word_next
returns-then-word_next c = λ s. (step _ _ (const_leads s _ (sym c.word_next.ensures ∙ c.if-word_next.true)) (const_one s) (c.in_ok-constant.ensures s)).reads _ _ (gives_reads _ _)

pub returns-in_err-global : goal.returns-in_err-global
returns-in_err-global c = leaves_in _ _ _ _ _ _ c.from_residual-in_err-global.ensures (λ s. halt _ _ s (global_leads s _ (sym c.word_next-2.ensures ∙ c.if-word_next-2.true)) (λ x. gives_word _) _ (c.in_err-global.ensures s))

pub returns-then-word_next-2 : goal.returns-then-word_next-2
returns-then-word_next-2 c = λ s. (step _ _ (global_leads s _ (sym c.word_next-2.ensures ∙ c.if-word_next-2.true)) (global_one s) (c.in_ok-global.ensures s)).reads _ _ (gives_reads _ _)

pub returns-in_err-formula : goal.returns-in_err-formula
returns-in_err-formula c = leaves_in _ _ _ _ _ _ c.from_residual-in_err-formula.ensures (λ s. halt _ _ s (formula_leads s _ (sym c.word_next-3.ensures ∙ c.if-word_next-3.true)) (λ x. gives_word _) _ (c.in_err-formula.ensures s))

pub returns-then-word_next-3 : goal.returns-then-word_next-3
returns-then-word_next-3 c = λ s. (step _ _ (formula_leads s _ (sym c.word_next-3.ensures ∙ c.if-word_next-3.true)) (formula_one s) (c.in_ok-formula.ensures s)).reads _ _ (gives_reads _ _)

pub returns-in_err-module : goal.returns-in_err-module
returns-in_err-module c = leaves_in _ _ _ _ _ _ c.from_residual-in_err-module.ensures (λ s. halt _ _ s (module_leads s _ (sym c.word_next-4.ensures ∙ c.if-word_next-4.true)) (λ x. gives_word _) _ (c.in_err-module.ensures s))

pub returns-then-word_next-4 : goal.returns-then-word_next-4
returns-then-word_next-4 c = λ s. (step _ _ (module_leads s _ (sym c.word_next-4.ensures ∙ c.if-word_next-4.true)) (module_one s) (c.in_ok-module.ensures s)).reads _ _ (gives_reads _ _)

pub returns-in_err-label : goal.returns-in_err-label
returns-in_err-label c = leaves_in _ _ _ _ _ _ c.from_residual-in_err-label.ensures (λ s. halt _ _ s (label_leads s _ (sym c.word_next-5.ensures ∙ c.if-word_next-5.true)) (λ x. gives_word _) _ (c.in_err-label.ensures s))

pub returns-then-word_next-5 : goal.returns-then-word_next-5
returns-then-word_next-5 c = λ s. (step _ _ (label_leads s _ (sym c.word_next-5.ensures ∙ c.if-word_next-5.true)) (label_one s) (c.in_ok-label.ensures s)).reads _ _ (gives_reads _ _)

pub returns-in_err-rewards : goal.returns-in_err-rewards
returns-in_err-rewards c = leaves_in _ _ _ _ _ _ c.from_residual-in_err-rewards.ensures (λ s. halt _ _ s (rewards_leads s _ (sym c.word_next.ensures ∙ c.if-word_next.false) (sym c.word_next-2.ensures ∙ c.if-word_next-2.false) (sym c.word_next-3.ensures ∙ c.if-word_next-3.false) (sym c.word_next-4.ensures ∙ c.if-word_next-4.false) (sym c.word_next-5.ensures ∙ c.if-word_next-5.false)) (λ x. gives_word _) _ (c.in_err-rewards.ensures s))

pub returns : goal.returns
returns c = λ s. (step _ _ (rewards_leads s _ (sym c.word_next.ensures ∙ c.if-word_next.false) (sym c.word_next-2.ensures ∙ c.if-word_next-2.false) (sym c.word_next-3.ensures ∙ c.if-word_next-3.false) (sym c.word_next-4.ensures ∙ c.if-word_next-4.false) (sym c.word_next-5.ensures ∙ c.if-word_next-5.false)) (rewards_one s) (c.in_ok-rewards.ensures s)).reads _ _ (gives_reads _ _)
