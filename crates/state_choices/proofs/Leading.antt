-- Whether choices lead to a state, by the columns that differ.
use Rattle.std.proofs.Common.{◌≡◌, ℕ, List, [], ◌∷◌, ◌&&◌, ◌||◌, map, length, Bool, true, false, Option, nat_eq, refl, sym, ap, ap₂, ◌∙◌}
use Rattle.std.specs.List.{flat_map}
use Rattle.process_core.specs.Choices.{written}
use Rattle.process_core.specs.Equal.{equal_states}
use Rattle.process_core.specs.Paths.{any_leads_to, is_positive, is_step, leads_to}
use Rattle.process_core.specs.Ready.{Name, Sum, Update, Values, Write, same_label}
use Rattle.state_choices.specs.Apart.{columns_apart, taken_back}
use Rattle.state_choices.specs.Open.{open_branch, open_choice, open_outcome, open_target}
use Rattle.state_choices.specs.Views.{sum_of, updates_of}
use Rattle.state_choices.specs.declared.open.OpenBranch.{OpenBranch}
use Rattle.state_choices.specs.declared.open.OpenChoice.{OpenChoice}
use Rattle.state_choices.specs.declared.open.OpenOutcome.{OpenOutcome}
use Rattle.state_choices.specs.declared.open.OpenOutcome.TheVariants as O
use Rattle.state_choices.proofs.Columns.{back_all, length-written, none_apart, other_length}

-- assignments made and taken back
pub back_is : (from a b c : Values) (ws : List Write) → a ≡ from → b ≡ written a ws → c ≡ taken_back from b ws → c ≡ from
back_is from a b c ws e f g = g ∙ ap (λ s. taken_back from s ws) (f ∙ ap (λ s. written s ws) e) ∙ back_all from ws

-- no column differs after the assignments
pub leads_is : (from to a b : Values) (ws vs : List Write) (left : ℕ) (p : Bool) → length from ≡ length to → a ≡ from → b ≡ written a ws → left ≡ columns_apart b to → ws ≡ vs → p ≡ true →
    nat_eq left 0 ≡ (p && equal_states to (written from vs))
leads_is from to a b ws vs left p l e f g h k =
    ap (λ n. nat_eq n 0) (g ∙ ap (λ s. columns_apart s to) (f ∙ ap₂ written e h))
    ∙ none_apart (written from vs) to (length-written from vs ∙ l)
    ∙ ap (λ q. q && equal_states to (written from vs)) (sym k)

-- ---- states with another number of columns aren't reached
module _ (from to : Values) (l : length from ≡ length to → ⊥) where
  no_branch : (rewards : List Sum) (bs : List OpenBranch) → any_leads_to to (map (open_branch from rewards) bs) ≡ false
  no_branch rewards [] = refl
  no_branch rewards (b ∷ bs) =
      ap₂ (λ x y. (is_positive b.weight && x) || y) (other_length (open_target from b) to (λ e. l (sym (length-written from (flat_map (λ (u : Update). u.writes) (updates_of b.updates.items))) ∙ e))) (no_branch rewards bs)
      ∙ nothing (is_positive b.weight)
    where
      nothing : (p : Bool) → ((p && false) || false) ≡ false
      nothing true = refl
      nothing false = refl

  no_outcome : (rewards : List Sum) (o : OpenOutcome) → leads_to to (open_outcome from rewards o) ≡ false
  no_outcome rewards (O.Good bs) = no_branch rewards bs
  no_outcome rewards (O.Faulty k) = refl

  none_steps : (cs : List OpenChoice) (label : Option Name) → is_step (map (open_choice from) cs) label to ≡ false
  none_steps [] label = refl
  none_steps (c ∷ cs) label =
      ap₂ (λ x y. (same_label label (open_choice from c).label && x) || y) (no_outcome (map sum_of c.rewards.now) c.outcome) (none_steps cs label)
      ∙ nothing (same_label label (open_choice from c).label)
    where
      nothing : (p : Bool) → ((p && false) || false) ≡ false
      nothing true = refl
      nothing false = refl

  pub no_step : (cs : List OpenChoice) (label : Option Name) → false ≡ is_step (map (open_choice from) cs) label to
  no_step cs label = sym (none_steps cs label)
