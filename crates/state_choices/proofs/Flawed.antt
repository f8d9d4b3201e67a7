-- What is wide, undefined or out of range, part by part, is what the definitions say of a combination.
use Rattle.std.proofs.Common.{◌≡◌, List, map, Bool, true, false, not, ◌||◌, ◌&&◌, is_none, is_some, refl, sym, ap, ap₂, ◌∙◌, Result}
use Rattle.std.specs.List.{list_any}
use Rattle.std.specs.Borrow.{Bor}
use Rattle.basics.specs.Booleans.{or_none}
use Rattle.basics.specs.Members.{any-map, any_agree, any_two, any_never}
use Rattle.frac_core.specs.Fraction.{Fraction}
use Rattle.op_trees.specs.declared.tree.EvalFail.{EvalFail}
use Rattle.process_core.specs.Ready as core
use Rattle.process_core.specs.Choices.{number_of, has_undef, has_outside, weights_of, weighs_wrong, kinds_of}
use Rattle.process_core.specs.Bounds.{has_wide_part, is_wide_participant, if_all, has_wide_sum}
use Rattle.state_choices.specs.declared.data.Write.{Write}
use Rattle.state_choices.specs.declared.data.Update.{Update}
use Rattle.state_choices.specs.declared.data.Command.{Command}
use Rattle.state_choices.specs.Views.{write_of, reward_of, update_of, command_of, participants_of, sum_of}
use Rattle.state_choices.specs.Flaws.{flaws_in, update_flaws, participant_flaws, sum_flaws}

or_assoc : (a b c : Bool) → (a || (b || c)) ≡ ((a || b) || c)
or_assoc true b c = refl
or_assoc false b c = refl

wide_update : (u : Update) → has_wide_part (update_of u) ≡ (update_flaws u).wide
wide_update u =
    ap₂ (λ a b. (update_of u).weight.wide || (a || b)) (any-map (λ (w : core.Write). w.value.wide) write_of u.writes) (any-map (λ (r : core.Reward). r.value.wide) reward_of u.rewards)
    ∙ or_assoc (update_of u).weight.wide _ _

undef_update : (u : Update) → has_undef (update_of u) ≡ (update_flaws u).undef
undef_update u =
    ap₂ (λ a b. is_none (number_of (update_of u).weight.value) || (a || b)) (any-map (λ (w : core.Write). is_none w.value.value) write_of u.writes)
    (any-map (λ (r : core.Reward). is_none (number_of r.value.value)) reward_of u.rewards)
    ∙ or_assoc (is_none (number_of (update_of u).weight.value)) _ _

outside_update : (u : Update) → has_outside (update_of u) ≡ (update_flaws u).range
outside_update u =
    any-map (λ (w : core.Write). is_some w.value.value && not w.fits) write_of u.writes
    ∙ or_none _
    ∙ ap (λ b. list_any (λ (w : Write). is_some (write_of w).value.value && not w.fits) u.writes || b) (sym (any_never u.rewards))

any_participant : (p : core.Update → Bool) (q : Update → Bool) → ((u : Update) → p (update_of u) ≡ q u) → (rs : List (Bor Command)) →
    list_any (λ r. list_any p r.updates) (participants_of rs) ≡ list_any (λ r. list_any q r.now.updates) rs
any_participant p q h rs =
    any-map (λ (r : core.Ready). list_any p r.updates) (λ (r : Bor Command). command_of r.now) rs
    ∙ any_agree _ _ (λ (r : Bor Command). any-map p update_of r.now.updates ∙ any_agree _ _ h r.now.updates) rs

module _ (rewards : List (Result Fraction EvalFail)) (rs : List (Bor Command)) where
  abbrev pub wide_weights : Bool
  wide_weights = list_any (λ r. if_all (weights_of (command_of r.now).updates) has_wide_sum) rs

  abbrev pub flaws : Bool
  flaws = (flaws_in participant_flaws rs).wide || (flaws_in sum_flaws rewards).wide

  pub kinds_wide : (list_any is_wide_participant (participants_of rs) || list_any (λ m. m.wide) (map sum_of rewards)) ≡ (flaws || wide_weights)
  kinds_wide =
      ap₂ (λ a b. a || b)
      (any_two (λ (r : core.Ready). list_any has_wide_part r.updates) (λ (r : core.Ready). if_all (weights_of r.updates) has_wide_sum) (participants_of rs)
      ∙ ap₂ (λ a b. a || b) (any_participant has_wide_part (λ u. (update_flaws u).wide) wide_update rs)
      (any-map (λ (r : core.Ready). if_all (weights_of r.updates) has_wide_sum) (λ (r : Bor Command). command_of r.now) rs))
      (any-map (λ (m : core.Sum). m.wide) sum_of rewards)
      ∙ turned (flaws_in participant_flaws rs).wide wide_weights (flaws_in sum_flaws rewards).wide
    where
      turned : (a b c : Bool) → ((a || b) || c) ≡ ((a || c) || b)
      turned true b c = refl
      turned false true true = refl
      turned false true false = refl
      turned false false c = or_none c

  pub kinds_undef : ((flaws_in participant_flaws rs).undef || (flaws_in sum_flaws rewards).undef) ≡ (kinds_of (map sum_of rewards) (participants_of rs)).undef
  kinds_undef =
      ap₂ (λ a b. a || b) (sym (any_participant has_undef (λ u. (update_flaws u).undef) undef_update rs)) (sym (any-map (λ (m : core.Sum). is_none m.value) sum_of rewards))

  pub kinds_range : ((flaws_in participant_flaws rs).range || (flaws_in sum_flaws rewards).range) ≡ (kinds_of (map sum_of rewards) (participants_of rs)).range
  kinds_range =
      ap₂ (λ a b. a || b) (sym (any_participant has_outside (λ u. (update_flaws u).range) outside_update rs)) (any_never rewards)
      ∙ sym (or_none _)

  pub kinds_weight : list_any (λ r. weighs_wrong (weights_of (command_of r.now).updates)) rs ≡ (kinds_of (map sum_of rewards) (participants_of rs)).weight
  kinds_weight = sym (any-map (λ (r : core.Ready). weighs_wrong (weights_of r.updates)) (λ (r : Bor Command). command_of r.now) rs)
