use Rattle.std.proofs.Common.{sym, ap, ◌∙◌, map, subst}
use Rattle.std.proofs.lemmas.List.{map-set, get_or-map}
use Rattle.process_core.specs.Seen.{seen_branch}
use Rattle.process_core.specs.Merging.{IsIndex}
use Rattle.process_core.proofs.Keys.{keys_kept}
use Rattle.process_core.proofs.Adding.{adds, adds_wide}
use Rattle.process_core.proofs.merging.add_branch.Goals as goal

pub returns-in-Ok-clause-sums : goal.returns-in-Ok-clause-sums
returns-in-Ok-clause-sums c = λ done h.
    let p = c.in_ok-place.ensures in
    let i = c.in_ok-place.place in
    let next = c.place_of.new.sums.items in
    let x = c.index_mut-sum.result.now in
    adds done (seen_branch c.args.branch.now) (map seen_branch c.args.sums.now.items) h (map seen_branch next) i (seen_branch x) p.sums p.place
    (ap seen_branch c.index_mut-sum.ensures.value ∙ sym (get_or-map seen_branch next i x (seen_branch x) p.within))
    c.in-Ok.weight _ (sym c.add.ensures ∙ c.in-Ok.is)
    (map-set seen_branch next i (record { weight = c.in-Ok.weight; target = x.target; rewards = x.rewards }))

pub returns-in-Err-clause-sums : goal.returns-in-Err-clause-sums
returns-in-Err-clause-sums c = λ done h.
    let p = c.in_ok-place.ensures in
    let i = c.in_ok-place.place in
    let next = c.place_of.new.sums.items in
    let x = c.index_mut-sum.result.now in
    adds_wide done (seen_branch c.args.branch.now) (map seen_branch c.args.sums.now.items) h (map seen_branch next) i (seen_branch x) p.sums p.place
    (ap seen_branch c.index_mut-sum.ensures.value ∙ sym (get_or-map seen_branch next i x (seen_branch x) p.within))
    _ (sym c.add.ensures ∙ c.in-Err.is)

pub returns-in-Ok-clause-index : goal.returns-in-Ok-clause-index
returns-in-Ok-clause-index c =
    subst (IsIndex c.place_of.new.places) (sym (keys_kept c.place_of.new.sums.items c.in_ok-place.place c.index_mut-sum.result.now c.in-Ok.weight c.index_mut-sum.ensures.value)) c.in_ok-place.ensures.index
