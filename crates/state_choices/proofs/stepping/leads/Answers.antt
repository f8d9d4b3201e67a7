use Rattle.std.proofs.Common.{◌∙◌, sym, ap, length}
use Rattle.std.specs.List.{flat_map}
use Rattle.process_core.specs.Ready.{Update}
use Rattle.state_choices.specs.Views.{updates_of}
use Rattle.state_choices.proofs.Columns.{length-written}
use Rattle.state_choices.proofs.Leading.{back_is, leads_is}
use Rattle.state_choices.proofs.stepping.leads.Goals as goal

pub take_all_back-requires : goal.take_all_back-requires
take_all_back-requires c = ap length c.put_all-left.ensures.values ∙ length-written c.args.values.now.items (flat_map (λ (u : Update). u.writes) (updates_of c.as_slice-updates.result.now)) ∙ ap length c.requires.values

pub returns-then-is_positive-clause-leads : goal.returns-then-is_positive-clause-leads
returns-then-is_positive-clause-leads c =
    leads_is c.args.from.now c.args.to.now _ _ (flat_map (λ (u : Update). u.writes) (updates_of c.as_slice-updates.result.now)) _ c.put_all-left.result _ c.requires.long c.requires.values c.put_all-left.ensures.values c.put_all-left.ensures.apart
    (ap (λ us. flat_map (λ (u : Update). u.writes) (updates_of us)) c.as_slice-updates.ensures.value) (sym c.is_positive.ensures ∙ c.if-is_positive.true)

pub returns-then-is_positive-clause-values : goal.returns-then-is_positive-clause-values
returns-then-is_positive-clause-values c = back_is c.args.from.now _ _ _ (flat_map (λ (u : Update). u.writes) (updates_of c.as_slice-updates.result.now)) c.requires.values c.put_all-left.ensures.values c.take_all_back.ensures

pub returns-else-is_positive-clause-values : goal.returns-else-is_positive-clause-values
returns-else-is_positive-clause-values c = back_is c.args.from.now _ _ _ (flat_map (λ (u : Update). u.writes) (updates_of c.as_slice-updates.result.now)) c.requires.values c.put_all-left.ensures.values c.take_all_back.ensures
