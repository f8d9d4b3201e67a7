use Rattle.std.proofs.Common.{◌∙◌, ◌≡◌, ◌<◌, ◌+◌, ℕ, length, get_or, take, ◌++◌, ◌∷◌, [], List, refl, sym, ap, ap₂, map, unwrap_or, Result, Ok, Err}
use Rattle.std.proofs.lemmas.List.{map_more}
use Rattle.std.specs.Result.{result_unwrap_or}
use Rattle.basics.specs.Lists.{at_take_all}
use Rattle.frac_core.specs.Fraction.{Fraction, nought}
use Rattle.op_trees.specs.declared.tree.EvalFail.{EvalFail}
use Rattle.op_trees.specs.declared.tree.EvalFail.TheVariants.{Undef, Wide}
use Rattle.process_core.specs.Product.{map-map}
use Rattle.process_core.specs.Ready.{Sum}
use Rattle.state_choices.specs.Views.{sum_of}
use Rattle.state_choices.proofs.branches.own_rewards.Goals as goal

pub returns : goal.returns
returns c =
    c.loop-reward.invariant
    ∙ at_take_all (map (λ (m : Result Fraction EvalFail). unwrap_or (sum_of m).value nought)) c.args.rewards.now c.loop-reward.reward-index c.loop-reward-test.false
    ∙ sym (map-map (λ (m : Sum). unwrap_or m.value nought) sum_of c.args.rewards.now)

-- what the program takes for a reward
taken : (m : Result Fraction EvalFail) (given : Fraction) → given ≡ nought → result_unwrap_or m given ≡ unwrap_or (sum_of m).value nought
taken (Ok x) given e = refl
taken (Err Undef) given e = e
taken (Err Wide) given e = e

-- one reward more
taken_more : (rewards : List (Result Fraction EvalFail)) (i : ℕ) (m : Result Fraction EvalFail) (given x : Fraction) (old new : List Fraction) →
    i < length rewards → m ≡ get_or rewards i m → given ≡ nought → x ≡ result_unwrap_or m given →
    old ≡ map (λ m. unwrap_or (sum_of m).value nought) (take i rewards) → new ≡ old ++ x ∷ [] → new ≡ map (λ m. unwrap_or (sum_of m).value nought) (take (i + 1) rewards)
taken_more rewards i m given x old new within here none is so_far pushed =
    pushed
    ∙ ap₂ (λ (before : List Fraction) y. before ++ y ∷ []) so_far (is ∙ taken m given none ∙ ap (λ r. unwrap_or (sum_of r).value nought) here)
    ∙ sym (map_more (λ r. unwrap_or (sum_of r).value nought) rewards i m within)

pub loop-reward-preserved : goal.loop-reward-preserved
loop-reward-preserved c =
    taken_more c.args.rewards.now c.loop-reward.reward-index c.reward-item.result c.zero.result c.unwrap_or.result c.loop-reward.own.items c.push.new.self.items
    c.loop-reward-test.true c.reward-item.is c.zero.ensures c.unwrap_or.ensures c.loop-reward.invariant c.in_ok-push.ensures.items
