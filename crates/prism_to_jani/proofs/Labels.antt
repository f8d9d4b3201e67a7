-- The labels of the choices of modules: none, and the actions of their commands.
use Rattle.std.specs.Prelude.{List, [], ◌∷◌, map, Bool, true, false, Option, Some, None}
use Rattle.std.specs.List.{All, filter, flat_map}
use Rattle.std.proofs.lemmas.List.Elements.{All-nil, All-cons, All-head, All-tail, All-append, All-map}
use Rattle.basics.specs.Members.{all_each}
use Rattle.frac_core.specs.Fraction.{Fraction}
use Rattle.process_core.specs.Process.{Choice, Outcome, Bad}
use Rattle.process_core.specs.Choices.{choice_from, choice_of, choices, undef_alone}
use Rattle.process_core.specs.Product.{one_of_each}
use Rattle.process_core.specs.Ready.{Values, Name, Ready, Sum, Combination, has_action, actions_of, alone, silent, together, sharing, of_modules}

module _ (P : Option Name → Type 0) where
  abbrev pub Labelled : Combination → Type 0
  Labelled c = P c.label

  abbrev pub ChoiceLabelled : Choice Name Fraction Values → Type 0
  ChoiceLabelled c = P c.label

  -- ---- of combinations
  silent_labels : P None → (rewards : List Sum) (ms : List (List Ready)) → All Labelled (silent rewards ms)
  silent_labels none rewards [] = All-nil Labelled
  silent_labels none rewards (m ∷ ms) =
      All-append Labelled (map (alone rewards) (filter (has_action None) m)) (silent rewards ms)
      (All-map Labelled (alone rewards) (filter (has_action None) m) (all_each (λ r. P None) (λ r. none) (filter (has_action None) m))) (silent_labels none rewards ms)

  shared_labels : (rewards : Option Name → List Sum) (ms : List (List Ready)) (as_ : List Name) → All (λ a. P (Some a)) as_ →
      All Labelled (flat_map (λ a. together (Some a) (rewards (Some a)) (sharing a ms)) as_)
  shared_labels rewards ms [] h = All-nil Labelled
  shared_labels rewards ms (a ∷ as_) h =
      let here = All-head (λ b. P (Some b)) a as_ h in
      All-append Labelled (together (Some a) (rewards (Some a)) (sharing a ms)) (flat_map (λ b. together (Some b) (rewards (Some b)) (sharing b ms)) as_)
      (All-map Labelled (λ rs. record { label = Some a; rewards = rewards (Some a); participants = rs }) (one_of_each (sharing a ms)) (all_each (λ rs. P (Some a)) (λ rs. here) (one_of_each (sharing a ms))))
      (shared_labels rewards ms as_ (All-tail (λ b. P (Some b)) a as_ h))

  pub modules_labels : (rewards : Option Name → List Sum) (ms : List (List Ready)) → P None → All (λ a. P (Some a)) (actions_of ms) → All Labelled (of_modules rewards ms)
  modules_labels rewards ms none h =
      All-append Labelled (silent (rewards None) ms) (flat_map (λ a. together (Some a) (rewards (Some a)) (sharing a ms)) (actions_of ms))
      (silent_labels none (rewards None) ms) (shared_labels rewards ms (actions_of ms) h)

  -- ---- of their choices
  choice_label : (g : Option Bool) (l : Option Name) (o : Outcome Fraction Values) → P l → All ChoiceLabelled (choice_from g l o)
  choice_label (Some true) l o p = All-cons ChoiceLabelled (record { label = l; outcome = o }) [] p (All-nil ChoiceLabelled)
  choice_label (Some false) l o p = All-nil ChoiceLabelled
  choice_label None l o p = All-cons ChoiceLabelled (record { label = l; outcome = Bad undef_alone }) [] p (All-nil ChoiceLabelled)

  pub choices_labels : (s : Values) (cs : List Combination) → All Labelled cs → All ChoiceLabelled (choices s cs)
  choices_labels s [] h = All-nil ChoiceLabelled
  choices_labels s (c ∷ cs) h =
      All-append ChoiceLabelled (choice_of s c) (choices s cs) (choice_label _ c.label _ (All-head Labelled c cs h)) (choices_labels s cs (All-tail Labelled c cs h))
