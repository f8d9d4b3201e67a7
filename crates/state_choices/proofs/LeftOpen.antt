-- Branches, outcomes and choices that are left open, and what they are at a state.
use Rattle.std.proofs.Common.{◌≡◌, ◌∷◌, [], ◌&&◌, ◌||◌, not, List, map, Bool, true, false, Some, None, if◌then◌else◌, refl, sym, ap, ap₂, ◌∙◌}
use Rattle.std.specs.List.{list_any}
use Rattle.frac_core.specs.Fraction.{Fraction}
use Rattle.process_core.specs.Process.{Branch, Choice, Outcome}
use Rattle.process_core.specs.Product.{map-map}
use Rattle.process_core.specs.Ready.{Values, Name, Sum, Update, Ready, Combination}
use Rattle.process_core.specs.Process.{Good, Bad}
use Rattle.state_choices.specs.Counted.{is_wide_outcome, is_wide_way}
use Rattle.state_choices.proofs.Answering.{narrow_then}
use Rattle.process_core.specs.Answers.{only_wide}
use Rattle.process_core.specs.Bounds.{holds, is_wide_participant, is_wide_rest}
use Rattle.process_core.specs.Choices.{branch_of, choice_from, choice_of, guard_of, has_kind, kinds_of, outcome_of, ways}
use Rattle.state_choices.specs.declared.open.OpenBranch.{OpenBranch}
use Rattle.state_choices.specs.Open.{branch_from, open_branch, way_of, weighed}

pub same_way : (p q : Fraction) (us ws : List Update) → p ≡ q → us ≡ ws → ◌≡◌ {A = Fraction × List Update} (p, us) (q, ws)
same_way p q us ws e f = ap₂ (λ a b. (a, b)) e f

-- the branches of the ways are those at any state
pub branches_at : (s : Values) (rewards : List Sum) (bs : List OpenBranch) (ws : List (List Update)) → map way_of bs ≡ map weighed ws → map (open_branch s rewards) bs ≡ map (branch_of s rewards) ws
branches_at s rewards bs ws e =
    sym (map-map (branch_from s rewards) way_of bs)
    ∙ ap (map (branch_from s rewards)) e
    ∙ map-map (branch_from s rewards) weighed ws

pub same_branch : (p q : Fraction) (s t : Values) (r u : List Fraction) → p ≡ q → s ≡ t → r ≡ u →
    ◌≡◌ {A = Branch Fraction Values} (record { probability = p; target = s; rewards = r }) (record { probability = q; target = t; rewards = u })
same_branch p q s t r u d e f = cc

-- ---- an outcome
pub no_kind : (a b c : Bool) → a ≡ false → b ≡ false → c ≡ false → (a || (b || c)) ≡ false
no_kind a b c e f g = ap₂ (λ x y. x || y) e (ap₂ (λ x y. x || y) f g)

module _ (rewards : List Sum) (rs : List Ready) where
  -- where there is no fault, and nothing is wide
  pub good_narrow : only_wide (list_any is_wide_participant rs || list_any (λ m. m.wide) rewards) ≡ None → only_wide (list_any is_wide_way (ways rs)) ≡ None → only_wide (is_wide_outcome rewards rs) ≡ None
  good_narrow n k = ap only_wide (all_three (list_any is_wide_participant rs) (list_any (λ m. m.wide) rewards) (not (has_kind (kinds_of rewards rs))) (list_any is_wide_way (ways rs)) (narrow_then _ n) (narrow_then _ k))
    where
      all_three : (a b c d : Bool) → (a || b) ≡ false → d ≡ false → (a || (b || (c && d))) ≡ false
      all_three true b c d e f = absurd cc
      all_three false true c d e f = absurd cc
      all_three false false true d e f = f
      all_three false false false d e f = refl

  pub good_branches : (s : Values) (bs : List OpenBranch) → has_kind (kinds_of rewards rs) ≡ false → map way_of bs ≡ map weighed (ways rs) →
      Good (map (open_branch s rewards) bs) ≡ outcome_of (kinds_of rewards rs) (map (branch_of s rewards) (ways rs))
  good_branches s bs e f = ap Good (branches_at s rewards bs (ways rs) f) ∙ sym (ap (λ b. if b then Bad (kinds_of rewards rs) else Good (map (branch_of s rewards) (ways rs))) e)

-- ---- the choice of a combination whose guard is true
module _ (c : Combination) (e : guard_of c.participants ≡ Some true) where
  pub rest_is : is_wide_rest c ≡ is_wide_outcome c.rewards c.participants
  rest_is = ap (λ g. holds g && is_wide_outcome c.rewards c.participants) e

  pub choice_is : (s : Values) (o : Outcome Fraction Values) → o ≡ outcome_of (kinds_of c.rewards c.participants) (map (branch_of s c.rewards) (ways c.participants)) →
      ◌≡◌ {A = List (Choice Name Fraction Values)} (record { label = c.label; outcome = o } ∷ []) (choice_of s c)
  choice_is s o f =
      ap {B = List (Choice Name Fraction Values)} (λ o. record { label = c.label; outcome = o } ∷ []) f
      ∙ sym (ap (λ g. choice_from g c.label (outcome_of (kinds_of c.rewards c.participants) (map (branch_of s c.rewards) (ways c.participants)))) e)
