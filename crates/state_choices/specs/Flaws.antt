-- What is wide, undefined or out of range in the parts of a combination, each by itself.
use Rattle.std.specs.Prelude.{List, false, not, ◌||◌, ◌&&◌, is_none, is_some, Result}
use Rattle.std.specs.List.{list_any}
use Rattle.std.specs.Borrow.{Bor}
use Rattle.frac_core.specs.Fraction.{Fraction}
use Rattle.op_trees.specs.declared.tree.EvalFail.{EvalFail}
use Rattle.process_core.specs.Choices.{number_of}
use Rattle.state_choices.specs.declared.data.Write.{Write}
use Rattle.state_choices.specs.declared.data.Reward.{Reward}
use Rattle.state_choices.specs.declared.data.Update.{Update}
use Rattle.state_choices.specs.declared.data.Command.{Command}
use Rattle.state_choices.specs.declared.flaws.Flaws.{Flaws}
use Rattle.state_choices.specs.Views.{seen_of, sum_of}

abbrev pub no_flaw : Flaws
no_flaw = record { wide = false; undef = false; range = false }

abbrev pub both : Flaws → Flaws → Flaws
both a b = record { wide = a.wide || b.wide; undef = a.undef || b.undef; range = a.range || b.range }

abbrev pub flaws_in : {X : Type 0} → (X → Flaws) → List X → Flaws
flaws_in f xs = record { wide = list_any (λ x. (f x).wide) xs; undef = list_any (λ x. (f x).undef) xs; range = list_any (λ x. (f x).range) xs }

abbrev pub sum_flaws : Result Fraction EvalFail → Flaws
sum_flaws m = record { wide = (sum_of m).wide; undef = is_none (sum_of m).value; range = false }

abbrev pub write_flaws : Write → Flaws
write_flaws w = record { wide = (seen_of w.value).wide; undef = is_none (seen_of w.value).value; range = is_some (seen_of w.value).value && not w.fits }

abbrev pub reward_flaws : Reward → Flaws
reward_flaws r = record { wide = (seen_of r.value).wide; undef = is_none (number_of (seen_of r.value).value); range = false }

abbrev pub update_flaws : Update → Flaws
update_flaws u =
    both (both (record { wide = (seen_of u.weight).wide; undef = is_none (number_of (seen_of u.weight).value); range = false }) (flaws_in write_flaws u.writes))
    (flaws_in reward_flaws u.rewards)

abbrev pub participant_flaws : Bor Command → Flaws
participant_flaws r = flaws_in update_flaws r.now.updates
