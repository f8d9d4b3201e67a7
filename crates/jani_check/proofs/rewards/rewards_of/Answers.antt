use Rattle.std.specs.Prelude.{◌+◌, List, ℕ, Some, None, bytes_eq, drop, map, if◌then◌else◌}
use Rattle.std.specs.Option.{option_map, option_or}
use Rattle.std.proofs.Common.{◌∙◌, ap, sym, subst₂}
use Rattle.std.proofs.lemmas.List.{map-append}
use Rattle.op_trees.specs.Tree.{tree}
use Rattle.jani_tree.specs.Syntax.{write_of}
use Rattle.name_rules.proofs.Maps.{at}
use Rattle.jani_check.specs.Assigned.{value_under}
use Rattle.jani_check.specs.Scopes.{scope_thing}
use Rattle.jani_check.proofs.First.{put_mapped}
use Rattle.jani_check.proofs.KeptRewards.{Kept, one_kept, one_out}
use Rattle.jani_check.proofs.rewards.rewards_of.Goals.{then-lack_reward+in_ok-put_first+in_ok-push, else-lack_reward}
use Rattle.jani_check.proofs.rewards.rewards_of.Goals as goal

pub loop-w-preserved : goal.loop-w-preserved
loop-w-preserved c =
    let things = scope_thing c.args.scope.now in
    let writes = c.args.writes.now in
    let i = c.loop-w.w-index in
    let item = c.w-item.result in
    let kept = map (λ w. write_of w.now) c.loop-w.rewards.items in
    let seen = value_under c.loop-w.seen in
    elim c.if-lack_reward.branch [
      | then-lack_reward+in_ok-put_first+in_ok-push w ↦
          one_kept things write_of writes i item c.loop-w-test.true c.w-item.is kept _ seen _ _ (sym c.lack_reward.ensures ∙ w.if-lack_reward.true)
          (ap (λ v. map (λ k. write_of k.now) v.items) w.rewards-is
          ∙ ap (map (λ k. write_of k.now)) w.in_ok-push.ensures.items
          ∙ map-append (λ k. write_of k.now) c.loop-w.rewards.items _)
          (λ x. ap (λ t. value_under t x) w.seen-is
          ∙ ap (λ o. option_map (λ e. tree e.now) o) (at w.in_ok-put_first.ensures x)
          ∙ put_mapped (λ e. tree e.now) _ _ _
          ∙ ap (λ (n : List ℕ). option_or (seen x) (if bytes_eq n x then Some (tree item.value) else None)) w.as_str.ensures)
          c.loop-w.invariant
      | else-lack_reward w ↦
          subst₂ (λ k s. Kept things (map write_of writes) (map write_of (drop (i + 1) writes)) k s)
          (ap (λ v. map (λ k. write_of k.now) v.items) (sym w.rewards-is)) (ap value_under (sym w.seen-is))
          (one_out things write_of writes i item c.loop-w-test.true c.w-item.is kept seen (sym c.lack_reward.ensures ∙ w.if-lack_reward.false) c.loop-w.invariant)
    ]
