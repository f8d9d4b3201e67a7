use Rattle.std.proofs.Common.{◌≡◌, ◌++◌, take}
use Rattle.std.specs.List.{flat_map}
use Rattle.walk_texts.specs.Lines.{reward_text}
use Rattle.walk_texts.proofs.state.push_rewards.Given as goal

abbrev pub invariant-loop-reward : goal.invariant-loop-reward
invariant-loop-reward l = l.out.items ≡ l.fn.out.items ++ flat_map reward_text (take l.reward-index l.rewards)
