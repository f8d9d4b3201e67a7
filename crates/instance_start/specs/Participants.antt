-- What holds of all commands of the modules holds of the participants of their combinations. (PRISM manual, "The PRISM Language":
-- "Synchronisation".)
use Rattle.std.specs.Prelude.{List, [], ◌∷◌, map, Option, Some, None}
use Rattle.std.specs.List.{All, flat_map, filter, list_any}
use Rattle.std.proofs.lemmas.List.Elements.{All-nil, All-cons, All-head, All-tail, All-append, All-map, All-weaker, All-filter}
use Rattle.process_core.specs.Ready.{Name, Ready, Sum, has_action, alone, silent, together, sharing, actions_of, of_modules}
use Rattle.process_core.specs.Product.{All-one_of_each}

pub each_flat : {X Y : Type 0} (P : Y → Type 0) (f : X → List Y) → ((x : X) → All P (f x)) → (xs : List X) → All P (flat_map f xs)
each_flat P f h [] = All-nil P
each_flat P f h (x ∷ xs) = All-append P (f x) (flat_map f xs) (h x) (each_flat P f h xs)

module _ (P : Ready → Type 0) where
  pub of_silent : (rewards : List Sum) (ms : List (List Ready)) → All (All P) ms → All (λ c. All P c.participants) (silent rewards ms)
  of_silent rewards [] h = All-nil (λ c. All P c.participants)
  of_silent rewards (m ∷ ms) h =
      All-append (λ c. All P c.participants) (map (alone rewards) (filter (has_action None) m)) (silent rewards ms)
      (All-map (λ c. All P c.participants) (alone rewards) (filter (has_action None) m)
      (All-weaker P (λ r. All P (r ∷ [])) (λ r p. All-cons P r [] p (All-nil P)) (filter (has_action None) m)
      (All-filter (has_action None) P m (All-head (All P) m ms h))))
      (of_silent rewards ms (All-tail (All P) m ms h))

  pub of_sharing : (a : Name) (ms : List (List Ready)) → All (All P) ms → All (All P) (sharing a ms)
  of_sharing a ms h =
      All-map (All P) (filter (has_action (Some a))) (filter (list_any (has_action (Some a))) ms)
      (All-weaker (All P) (λ m. All P (filter (has_action (Some a)) m)) (λ m k. All-filter (has_action (Some a)) P m k)
      (filter (list_any (has_action (Some a))) ms) (All-filter (list_any (has_action (Some a))) (All P) ms h))

  pub of_all : (rewards : Option Name → List Sum) (ms : List (List Ready)) → All (All P) ms → All (λ c. All P c.participants) (of_modules rewards ms)
  of_all rewards ms h =
      All-append (λ c. All P c.participants) (silent (rewards None) ms) (flat_map (λ a. together (Some a) (rewards (Some a)) (sharing a ms)) (actions_of ms)) (of_silent (rewards None) ms h)
      (each_flat (λ c. All P c.participants) (λ a. together (Some a) (rewards (Some a)) (sharing a ms))
      (λ a. All-map (λ c. All P c.participants) (λ rs. record { label = Some a; rewards = rewards (Some a); participants = rs }) _ (All-one_of_each P (sharing a ms) (of_sharing a ms h))) (actions_of ms))
