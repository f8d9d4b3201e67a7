use Rattle.std.proofs.Common.{sym, ◌∙◌}
use Rattle.process_core.proofs.Keys.{target_found, target_opened, target_indexed}
use Rattle.process_core.proofs.merging.place_of.Goals as goal

pub returns-in-Some-clause-place : goal.returns-in-Some-clause-place
returns-in-Some-clause-place c =
    (target_found c.args.places.now c.args.sums.now.items c.in_ok-key.key c.args.target.now.values c.in_ok-key.ensures c.requires c.in-Some.place
    (sym c.get.ensures.value ∙ sym c.copied.ensures ∙ c.in-Some.is)).0

pub returns-in-Some-clause-sums : goal.returns-in-Some-clause-sums
returns-in-Some-clause-sums c =
    (target_found c.args.places.now c.args.sums.now.items c.in_ok-key.key c.args.target.now.values c.in_ok-key.ensures c.requires c.in-Some.place
    (sym c.get.ensures.value ∙ sym c.copied.ensures ∙ c.in-Some.is)).1

pub returns-in-Some-clause-within : goal.returns-in-Some-clause-within
returns-in-Some-clause-within c =
    (target_found c.args.places.now c.args.sums.now.items c.in_ok-key.key c.args.target.now.values c.in_ok-key.ensures c.requires c.in-Some.place
    (sym c.get.ensures.value ∙ sym c.copied.ensures ∙ c.in-Some.is)).2

pub returns-in_ok-insert-in-None-clause-place : goal.returns-in_ok-insert-in-None-clause-place
returns-in_ok-insert-in-None-clause-place c =
    (target_opened c.args.places.now c.args.sums.now.items c.in_ok-key.key c.args.target.now.values c.in_ok-key.ensures c.requires c.open_sum.new.sums.items c.in_ok-open_sum-in-None.ensures
    (sym c.get.ensures.value ∙ sym c.copied.ensures ∙ c.in-None.is) _ (c.len-place.ensures ∙ c.args.sums.now.ok.0)).0

pub returns-in_ok-insert-in-None-clause-sums : goal.returns-in_ok-insert-in-None-clause-sums
returns-in_ok-insert-in-None-clause-sums c =
    (target_opened c.args.places.now c.args.sums.now.items c.in_ok-key.key c.args.target.now.values c.in_ok-key.ensures c.requires c.open_sum.new.sums.items c.in_ok-open_sum-in-None.ensures
    (sym c.get.ensures.value ∙ sym c.copied.ensures ∙ c.in-None.is) _ (c.len-place.ensures ∙ c.args.sums.now.ok.0)).1

pub returns-in_ok-insert-in-None-clause-within : goal.returns-in_ok-insert-in-None-clause-within
returns-in_ok-insert-in-None-clause-within c =
    (target_opened c.args.places.now c.args.sums.now.items c.in_ok-key.key c.args.target.now.values c.in_ok-key.ensures c.requires c.open_sum.new.sums.items c.in_ok-open_sum-in-None.ensures
    (sym c.get.ensures.value ∙ sym c.copied.ensures ∙ c.in-None.is) _ (c.len-place.ensures ∙ c.args.sums.now.ok.0)).2

pub returns-in_ok-insert-in-None-clause-index : goal.returns-in_ok-insert-in-None-clause-index
returns-in_ok-insert-in-None-clause-index c =
    target_indexed c.args.places.now c.args.sums.now.items c.in_ok-key.key c.args.target.now.values c.in_ok-key.ensures c.requires c.open_sum.new.sums.items c.in_ok-open_sum-in-None.ensures
    (sym c.get.ensures.value ∙ sym c.copied.ensures ∙ c.in-None.is) c.insert.new.self _ (c.len-place.ensures ∙ c.args.sums.now.ok.0) c.in_ok-insert-in-None.ensures.updates
