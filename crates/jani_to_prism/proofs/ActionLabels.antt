-- The labels of the choices of modules: what holds of no label and of the action of each command holds of each.
use Rattle.std.specs.Prelude.{List, [], ◌∷◌, map, Bool, true, false, not, Option, Some, None, bytes_eq}
use Rattle.std.specs.List.{filter, flat_map, AllByRecursion as Each}
use Rattle.basics.specs.Each.{each_any, each_filter, each_flat, each_join, each_unit}
use Rattle.basics.specs.Options.{if_some}
use Rattle.frac_core.specs.Fraction.{Fraction}
use Rattle.process_core.specs.Process.{Choice, Outcome}
use Rattle.process_core.specs.Product.{one_of_each}
use Rattle.process_core.specs.Ready.{Values, Name, Ready, Sum, Combination, firsts, has_action, actions_of, alone, silent, together, sharing, of_modules}
use Rattle.process_core.specs.Choices.{guard_of, kinds_of, branch_of, ways, outcome_of, choice_from, choice_of, choices}

-- of the action of a command
abbrev pub Acts : (Option Name → Type 0) → Ready → Type 0
Acts P r = P r.action

module _ (P : Option Name → Type 0) where
  abbrev IsAction : Name → Type 0
  IsAction x = P (Some x)

  abbrev IsLabelled : Combination → Type 0
  IsLabelled c = P c.label

  abbrev pub IsLabelledChoice : Choice Name Fraction Values → Type 0
  IsLabelledChoice c = P c.label

  some_action : (o : Option Name) → P o → Each IsAction (if_some o)
  some_action None h = tt
  some_action (Some x) h = (h, tt)

  firsts_too : (xs : List Name) → Each IsAction xs → Each IsAction (firsts bytes_eq xs)
  firsts_too [] h = tt
  firsts_too (x ∷ xs) h = (h.0, each_filter IsAction (λ y. not (bytes_eq x y)) (firsts bytes_eq xs) (firsts_too xs h.1))

  actions_too : (ms : List (List Ready)) → Each (Each (Acts P)) ms → Each IsAction (actions_of ms)
  actions_too ms h =
      firsts_too (flat_map (λ m. flat_map (λ r. if_some r.action) m) ms)
      (each_flat (Each (Acts P)) IsAction (λ m. flat_map (λ r. if_some r.action) m)
      (λ m k. each_flat (Acts P) IsAction (λ r. if_some r.action) (λ r e. some_action r.action e) m k) ms h)

  combined : P None → (rewards : Option Name → List Sum) (ms : List (List Ready)) → Each (Each (Acts P)) ms → Each IsLabelled (of_modules rewards ms)
  combined none rewards ms h =
      each_join IsLabelled (silent (rewards None) ms) (flat_map (λ a. together (Some a) (rewards (Some a)) (sharing a ms)) (actions_of ms))
      (each_flat (λ (m : List Ready). Unit {0}) IsLabelled (λ m. map (alone (rewards None)) (filter (has_action None) m))
      (λ m u. each_any IsLabelled (alone (rewards None)) (λ r. none) (filter (has_action None) m)) ms (each_unit ms))
      (each_flat IsAction IsLabelled (λ a. together (Some a) (rewards (Some a)) (sharing a ms))
      (λ a e. each_any IsLabelled (λ (rs : List Ready). record { label = Some a; rewards = rewards (Some a); participants = rs }) (λ rs. e) (one_of_each (sharing a ms)))
      (actions_of ms) (actions_too ms h))

  by_guard : (g : Option Bool) (l : Option Name) (o : Outcome Fraction Values) → P l → Each IsLabelledChoice (choice_from g l o)
  by_guard (Some false) l o h = tt
  by_guard (Some true) l o h = (h, tt)
  by_guard None l o h = (h, tt)

  pub labels_of_modules : P None → (s : Values) (rewards : Option Name → List Sum) (ms : List (List Ready)) → Each (Each (Acts P)) ms → Each IsLabelledChoice (choices s (of_modules rewards ms))
  labels_of_modules none s rewards ms h =
      each_flat IsLabelled IsLabelledChoice (choice_of s)
      (λ c e. by_guard (guard_of c.participants) c.label (outcome_of (kinds_of c.rewards c.participants) (map (branch_of s c.rewards) (ways c.participants))) e) (of_modules rewards ms)
      (combined none rewards ms h)
