-- Laws of combinations: their order and their parts, modules as vectors, and combinations that follow themselves.
use Rattle.std.specs.Prelude.{◌≡◌, List, [], ◌∷◌, ◌++◌, map, Bool, true, false, Option, Some, None, if◌then◌else◌}
use Rattle.std.specs.List.{flat_map, filter, list_any}
use Rattle.std.proofs.Common.{refl, sym, ap, ◌∙◌}
use Rattle.std.proofs.lemmas.List.Concat.{flat_map-append}
use Rattle.std.proofs.lemmas.List.Folds.{flat_map-map}
use Rattle.process_core.specs.Process.{EquallyOften}
use Rattle.process_core.specs.Product.{one_of_each, map-flat_map, flat_map_agree}
use Rattle.process_core.specs.Often.{often_refl, often_same, often_trans, often-map, often-flat_map, often_parts}
use Rattle.process_core.specs.Ready.{Values, Name, Ready, Sum, Combination, has_action, actions_of, silent, together, sharing, of_modules, taking, of_elements, vector_of}
use Rattle.process_core.specs.Choices.{choice_of, choices}

-- the choices of two lists of combinations
pub choices-append : (s : Values) (cs ds : List Combination) → choices s (cs ++ ds) ≡ choices s cs ++ choices s ds
choices-append s cs ds = flat_map-append (choice_of s) cs ds

-- the same combinations equally often have the same choices equally often
pub choices_often : (s : Values) {cs ds : List Combination} → EquallyOften cs ds → EquallyOften (choices s cs) (choices s ds)
choices_often s h = often-flat_map (choice_of s) (choice_of s) h (λ c. often_refl (choice_of s c))

-- where the members of one place are split into parts, the combinations are those of each part in turn
pub together_parts : (label : Option Name) (rewards : List Sum) (before parts rest : List (List Ready)) →
    EquallyOften (together label rewards (before ++ flat_map (λ p. p) parts ∷ rest)) (flat_map (λ p. together label rewards (before ++ p ∷ rest)) parts)
together_parts label rewards before parts rest =
    let named : List Ready → Combination = λ rs. record { label = label; rewards = rewards; participants = rs } in
    often_trans (often-map named (often_parts before parts rest))
    (often_same _ _ (map-flat_map named (λ p. one_of_each (before ++ p ∷ rest)) parts))

-- ---- modules as vectors
cons_if : (a : Name) (m : List Ready) (ms : List (List Ready)) (parts : List (Option Name)) (rest : List (List Ready)) → taking parts ms ≡ rest → (b : Bool) →
    taking ((if b then Some a else None) ∷ parts) (m ∷ ms) ≡ (if b then filter (has_action (Some a)) m ∷ rest else rest)
cons_if a m ms parts rest h true = ap (λ l. filter (has_action (Some a)) m ∷ l) h
cons_if a m ms parts rest h false = h

shared_if : (a : Name) (m : List Ready) (ms : List (List Ready)) (b : Bool) →
    (if b then filter (has_action (Some a)) m ∷ map (filter (has_action (Some a))) ms else map (filter (has_action (Some a))) ms)
    ≡ map (filter (has_action (Some a))) (if b then m ∷ ms else ms)
shared_if a m ms true = refl
shared_if a m ms false = refl

pub taking_sharing : (a : Name) (ms : List (List Ready)) → taking (vector_of a ms).parts ms ≡ sharing a ms
taking_sharing a [] = refl
taking_sharing a (m ∷ ms) =
    cons_if a m ms (vector_of a ms).parts (sharing a ms) (taking_sharing a ms) (list_any (has_action (Some a)) m)
    ∙ shared_if a m (filter (list_any (has_action (Some a))) ms) (list_any (has_action (Some a)) m)

-- modules are combined as elements are that have a vector for each action
pub of_modules_vectors : (rewards : List Sum) (ms : List (List Ready)) →
    of_modules (λ a. rewards) ms ≡ of_elements rewards (map (λ a. vector_of a ms) (actions_of ms)) ms
of_modules_vectors rewards ms =
    ap (λ l. silent rewards ms ++ l)
    (flat_map_agree (λ a. together (Some a) rewards (sharing a ms)) (λ a. together (Some a) rewards (taking (vector_of a ms).parts ms))
    (λ a. ap (together (Some a) rewards) (sym (taking_sharing a ms))) (actions_of ms)
    ∙ sym (flat_map-map (λ v. together v.result rewards (taking v.parts ms)) (λ a. vector_of a ms) (actions_of ms)))
