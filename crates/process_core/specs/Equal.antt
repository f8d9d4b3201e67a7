-- When two values, states, branches and choices are equal, as tests.
use Rattle.std.specs.Prelude.{◌≡◌, ◌↔◌, List, Bool, true, false, ◌&&◌, IsTrue, Option, Some, None}
use Rattle.std.specs.Cmp.Lexicographic.{pointwise, pointwise_decides, bytes_decides}
use Rattle.std.proofs.Common.{refl, sym, ap, ◌∙◌}
use Rattle.std.proofs.lemmas.Bool.{and_from}
use Rattle.basics.specs.Booleans.{first_true, second_true}
use Rattle.frac_core.specs.Fraction.{Fraction, same_number}
use Rattle.frac_core.specs.Laws.{same_number_is}
use Rattle.op_trees.specs.declared.tree.Value.{Value}
use Rattle.op_trees.specs.declared.tree.Value.TheVariants as V
use Rattle.process_core.specs.Ready.{Values, Name, same_label}
use Rattle.process_core.specs.declared.data.State.{State}
use Rattle.process_core.specs.declared.data.Bad.{Bad}
use Rattle.process_core.specs.declared.data.Branch.{Branch}
use Rattle.process_core.specs.declared.data.Outcome.{Outcome}
use Rattle.process_core.specs.declared.data.Outcome.TheVariants.{Good, Faulty}
use Rattle.process_core.specs.declared.data.Choice.{Choice}

abbrev pub equal_truths : Bool → Bool → Bool
equal_truths true b = b
equal_truths false true = false
equal_truths false false = true

abbrev pub equal_values : Value → Value → Bool
equal_values (V.Truth a) (V.Truth b) = equal_truths a b
equal_values (V.Truth a) (V.Number y) = false
equal_values (V.Number x) (V.Truth b) = false
equal_values (V.Number x) (V.Number y) = same_number x y

abbrev pub equal_states : Values → Values → Bool
equal_states = pointwise equal_values

abbrev pub equal_branches : Branch → Branch → Bool
equal_branches a b =
    same_number a.weight b.weight && (equal_states a.target.values b.target.values && pointwise same_number a.rewards b.rewards)

abbrev pub equal_kinds : Bad → Bad → Bool
equal_kinds a b = equal_truths a.undef b.undef && (equal_truths a.range b.range && equal_truths a.weight b.weight)

abbrev pub equal_outcomes : Outcome → Outcome → Bool
equal_outcomes (Good as_) (Good bs) = pointwise equal_branches as_ bs
equal_outcomes (Good as_) (Faulty b) = false
equal_outcomes (Faulty a) (Good bs) = false
equal_outcomes (Faulty a) (Faulty b) = equal_kinds a b

abbrev pub equal_choices : Choice → Choice → Bool
equal_choices a b = same_label a.label b.label && equal_outcomes a.outcome b.outcome

-- a test that says yes exactly of equal things
abbrev pub IsEquality : {X : Type 0} → (X → X → Bool) → Type 0
IsEquality {X} same = (x y : X) → IsTrue (same x y) ↔ (x ≡ y)

truths_self : (a : Bool) → equal_truths a a ≡ true
truths_self true = refl
truths_self false = refl

truths_same : (a b : Bool) → equal_truths a b ≡ true → a ≡ b
truths_same true b h = sym h
truths_same false true h = cc
truths_same false false h = refl

pub equal_values_is : IsEquality equal_values
equal_values_is (V.Truth a) (V.Truth b) = (λ h. ap V.Truth (truths_same a b h), λ e. let f : a ≡ b = cc in ap (equal_truths a) (sym f) ∙ truths_self a)
equal_values_is (V.Truth a) (V.Number y) = (λ h. absurd cc, λ e. absurd cc)
equal_values_is (V.Number x) (V.Truth b) = (λ h. absurd cc, λ e. absurd cc)
equal_values_is (V.Number x) (V.Number y) = (λ h. ap V.Number ((same_number_is x y).0 h), λ e. let f : x ≡ y = cc in (same_number_is x y).1 f)

pub equal_states_is : IsEquality equal_states
equal_states_is = pointwise_decides equal_values_is

same_branch : (x y : Fraction) (s t : Values) (rs qs : List Fraction) → x ≡ y → s ≡ t → rs ≡ qs →
    ◌≡◌ {A = Branch} (record { weight = x; target = record { values = s }; rewards = rs }) (record { weight = y; target = record { values = t }; rewards = qs })
same_branch x y s t rs qs p q r = cc

pub equal_branches_is : IsEquality equal_branches
equal_branches_is a b = (
  λ h.
      let rest = second_true (same_number a.weight b.weight) _ h in
      same_branch a.weight b.weight a.target.values b.target.values a.rewards b.rewards ((same_number_is a.weight b.weight).0 (first_true (same_number a.weight b.weight) _ h))
      ((equal_states_is a.target.values b.target.values).0 (first_true (equal_states a.target.values b.target.values) _ rest))
      ((pointwise_decides same_number_is a.rewards b.rewards).0 (second_true (equal_states a.target.values b.target.values) _ rest)),
  λ e.
      and_from (same_number a.weight b.weight) _ ((same_number_is a.weight b.weight).1 (ap (λ (c : Branch). c.weight) e))
      (and_from (equal_states a.target.values b.target.values) _ ((equal_states_is a.target.values b.target.values).1 (ap (λ (c : Branch). c.target.values) e))
      ((pointwise_decides same_number_is a.rewards b.rewards).1 (ap (λ (c : Branch). c.rewards) e))),
)

same_kinds : (a b c d e f : Bool) → a ≡ b → c ≡ d → e ≡ f → ◌≡◌ {A = Bad} (record { undef = a; range = c; weight = e }) (record { undef = b; range = d; weight = f })
same_kinds a b c d e f p q r = cc

pub equal_kinds_is : IsEquality equal_kinds
equal_kinds_is a b = (
  λ h.
      let rest = second_true (equal_truths a.undef b.undef) _ h in
      same_kinds a.undef b.undef a.range b.range a.weight b.weight (truths_same a.undef b.undef (first_true (equal_truths a.undef b.undef) _ h))
      (truths_same a.range b.range (first_true (equal_truths a.range b.range) _ rest)) (truths_same a.weight b.weight (second_true (equal_truths a.range b.range) _ rest)),
  λ e. ap (equal_kinds a) (sym e) ∙ and_from (equal_truths a.undef a.undef) _ (truths_self a.undef) (and_from (equal_truths a.range a.range) _ (truths_self a.range) (truths_self a.weight)),
)

pub equal_outcomes_is : IsEquality equal_outcomes
equal_outcomes_is (Good as_) (Good bs) = (
  λ h. ap Good ((pointwise_decides equal_branches_is as_ bs).0 h),
  λ e. let f : as_ ≡ bs = cc in (pointwise_decides equal_branches_is as_ bs).1 f,
)
equal_outcomes_is (Good as_) (Faulty b) = (λ h. absurd cc, λ e. absurd cc)
equal_outcomes_is (Faulty a) (Good bs) = (λ h. absurd cc, λ e. absurd cc)
equal_outcomes_is (Faulty a) (Faulty b) = (λ h. ap Faulty ((equal_kinds_is a b).0 h), λ e. let f : a ≡ b = cc in (equal_kinds_is a b).1 f)

pub same_label_is : IsEquality same_label
same_label_is None None = (λ h. refl, λ e. refl)
same_label_is None (Some y) = (λ h. absurd cc, λ e. absurd cc)
same_label_is (Some x) None = (λ h. absurd cc, λ e. absurd cc)
same_label_is (Some x) (Some y) = (λ h. ap Some ((bytes_decides x y).0 h), λ e. let f : x ≡ y = cc in (bytes_decides x y).1 f)

same_choice : (l m : Option Name) (o q : Outcome) → l ≡ m → o ≡ q → ◌≡◌ {A = Choice} (record { label = l; outcome = o }) (record { label = m; outcome = q })
same_choice l m o q e f = cc

pub equal_choices_is : IsEquality equal_choices
equal_choices_is a b = (
  λ h.
      same_choice a.label b.label a.outcome b.outcome ((same_label_is a.label b.label).0 (first_true (same_label a.label b.label) _ h))
      ((equal_outcomes_is a.outcome b.outcome).0 (second_true (same_label a.label b.label) _ h)),
  λ e.
      and_from (same_label a.label b.label) _ ((same_label_is a.label b.label).1 (ap (λ (c : Choice). c.label) e))
      ((equal_outcomes_is a.outcome b.outcome).1 (ap (λ (c : Choice). c.outcome) e)),
)

-- what an answer by a test tells
pub choices_decided : (a b : Choice) (r : Bool) → r ≡ equal_choices a b → IsTrue r ↔ (a ≡ b)
choices_decided a b r e = (λ h. (equal_choices_is a b).0 (sym e ∙ h), λ h. e ∙ (equal_choices_is a b).1 h)

same_state : (s t : Values) → s ≡ t → ◌≡◌ {A = State} (record { values = s }) (record { values = t })
same_state s t e = cc

pub states_decided : (a b : State) (r : Bool) → r ≡ equal_states a.values b.values → IsTrue r ↔ (a ≡ b)
states_decided a b r e = (
  λ h. same_state a.values b.values ((equal_states_is a.values b.values).0 (sym e ∙ h)),
  λ h. e ∙ (equal_states_is a.values b.values).1 (ap (λ (s : State). s.values) h),
)
