-- The labels of choices are those of commands, or of synchronisation vectors.
use Rattle.std.proofs.Common.{Bool, true, false, not, List, [], ◌∷◌, map, flat_map, Option, Some, None, bytes_eq}
use Rattle.std.specs.List.{filter, AllByRecursion as Each}
use Rattle.basics.specs.Each.{each_any, each_filter, each_flat, each_join, each_unit}
use Rattle.basics.specs.Options.{if_some, IfAny}
use Rattle.frac_core.specs.Fraction.{Fraction}
use Rattle.process_core.specs.Process.{Choice, Outcome}
use Rattle.process_core.specs.Product.{one_of_each}
use Rattle.process_core.specs.Ready.{Values, Name, Ready, Sum, Combination, Vector, has_action, firsts, actions_of, alone, silent, together, sharing, taking, of_modules, of_elements}
use Rattle.process_core.specs.Choices.{guard_of, choice_from, choice_of, choices}

module _ (P : Name → Type 0) where
  -- the labels of choices and of combinations, if any, are P
  abbrev pub IsLabelled : Choice Name Fraction Values → Type 0
  IsLabelled c = IfAny P c.label

  abbrev IsLabelledAll : Combination → Type 0
  IsLabelledAll c = IfAny P c.label

  abbrev pub IsActing : Ready → Type 0
  IsActing r = IfAny P r.action

  from_guard : (g : Option Bool) (label : Option Name) (o : Outcome Fraction Values) → IfAny P label → Each IsLabelled (choice_from g label o)
  from_guard None label o h = (h, tt)
  from_guard (Some false) label o h = tt
  from_guard (Some true) label o h = (h, tt)

  choices_labelled : (s : Values) (cs : List Combination) → Each IsLabelledAll cs → Each IsLabelled (choices s cs)
  choices_labelled s cs h = each_flat IsLabelledAll IsLabelled (choice_of s) (λ c k. from_guard (guard_of c.participants) c.label _ k) cs h

  silent_labelled : (rewards : List Sum) (ms : List (List Ready)) → Each IsLabelledAll (silent rewards ms)
  silent_labelled rewards ms =
      each_flat (λ m. Unit {0}) IsLabelledAll (λ m. map (alone rewards) (filter (has_action None) m)) (λ m u. each_any IsLabelledAll (alone rewards) (λ r. tt) (filter (has_action None) m)) ms
      (each_unit ms)

  together_labelled : (label : Option Name) (rewards : List Sum) (lists : List (List Ready)) → IfAny P label → Each IsLabelledAll (together label rewards lists)
  together_labelled label rewards lists h = each_any IsLabelledAll _ (λ rs. h) (one_of_each lists)

  -- ---- modules
  firsts_are : (xs : List Name) → Each P xs → Each P (firsts bytes_eq xs)
  firsts_are [] h = tt
  firsts_are (x ∷ xs) h = (h.0, each_filter P (λ y. not (bytes_eq x y)) (firsts bytes_eq xs) (firsts_are xs h.1))

  named_by : (o : Option Name) → IfAny P o → Each P (if_some o)
  named_by None h = tt
  named_by (Some x) h = (h, tt)

  actions_are : (ms : List (List Ready)) → Each (Each IsActing) ms → Each P (actions_of ms)
  actions_are ms h =
      firsts_are (flat_map (λ m. flat_map (λ r. if_some r.action) m) ms)
      (each_flat (Each IsActing) P (λ m. flat_map (λ r. if_some r.action) m) (λ m k. each_flat IsActing P (λ r. if_some r.action) (λ r j. named_by r.action j) m k) ms h)

  pub modules_labelled : (s : Values) (rewards : Option Name → List Sum) (ms : List (List Ready)) → Each (Each IsActing) ms → Each IsLabelled (choices s (of_modules rewards ms))
  modules_labelled s rewards ms h =
      let shared = flat_map (λ a. together (Some a) (rewards (Some a)) (sharing a ms)) (actions_of ms) in
      choices_labelled s (of_modules rewards ms)
      (each_join IsLabelledAll (silent (rewards None) ms) shared (silent_labelled (rewards None) ms)
      (each_flat P IsLabelledAll (λ a. together (Some a) (rewards (Some a)) (sharing a ms)) (λ a k. together_labelled (Some a) (rewards (Some a)) (sharing a ms) k) (actions_of ms) (actions_are ms h)))

  -- ---- elements
  pub elements_labelled : (s : Values) (rewards : List Sum) (vs : List Vector) (es : List (List Ready)) → Each (λ v. IfAny P v.result) vs → Each IsLabelled (choices s (of_elements rewards vs es))
  elements_labelled s rewards vs es h =
      let shared = flat_map (λ v. together v.result rewards (taking v.parts es)) vs in
      choices_labelled s (of_elements rewards vs es)
      (each_join IsLabelledAll (silent rewards es) shared (silent_labelled rewards es)
      (each_flat (λ v. IfAny P v.result) IsLabelledAll (λ v. together v.result rewards (taking v.parts es)) (λ v k. together_labelled v.result rewards (taking v.parts es) k) vs h))
