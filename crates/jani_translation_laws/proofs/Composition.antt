-- The composition of a translated file: each automaton takes part once, and each vector has a part for each, with some that
-- takes part.
use Rattle.std.specs.Prelude.{◌≡◌, ℕ, ◌+◌, List, [], ◌∷◌, map, length, Bool, true, false, not, ◌||◌, Option, Some, None, is_some, nat_eq, bytes_eq, if◌then◌else◌}
use Rattle.std.specs.List.{flat_map, list_any, AllByRecursion as Each}
use Rattle.std.proofs.Common.{refl, sym, ap, ap₂, ◌∙◌, arith, length-append, eq-eqb}
use Rattle.std.proofs.lemmas.Bool.Decides.{nat_tests}
use Rattle.std.proofs.lemmas.List.{length-map}
use Rattle.std.proofs.lemmas.List.Folds.{list_any-append}
use Rattle.std.proofs.lemmas.Slice.Eq.{bytes_eq-Decides}
use Rattle.std.proofs.lemmas.Bool.{or_left, or_right}
use Rattle.std.proofs.Math.Bool.{or-false}
use Rattle.basics.specs.Texts.{bytes_eq_comm}
use Rattle.basics.specs.Lists.{append_both}
use Rattle.basics.specs.Each.{each_map, each_join, each_empty}
use Rattle.bridge_io.specs.declared.reason.Reason.TheVariants.{Nothing, BadVector, RepeatedAutomaton}
use Rattle.name_rules.proofs.Plain.{no_fault, fault_none, not_doubled}
use Rattle.basics.specs.Options.{if_some}
use Rattle.process_core.specs.Ready.{Name, same_label}
use Rattle.process_core.proofs.Targets.{any_firsts}
use Rattle.prism_tree.specs.Syntax as prism
use Rattle.prism_tree.specs.Syntax.{Body}
use Rattle.process_core.specs.Instance.{numbered, only_if}
use Rattle.prism_check.specs.NameFaults as pc
use Rattle.jani_tree.specs.Syntax.{Vector, element_names}
use Rattle.jani_check.specs.NameFaults.{automaton_names, doubled_names, unknown_names, circles, repeated_elements, no_element, bad_vector, composition_faults}
use Rattle.jani_translation.specs.Asks.{bodies, actions, action_of, new_names}
use Rattle.jani_translation.specs.Parts.{made}
use Rattle.jani_translation.specs.Automata.{zz_silent, for_action, has_items, has_silent, earning_actions, is_some_name, earns_silently, has_monitor}
use Rattle.jani_translation.specs.Translated.{has_command, part_if, silent_vector, silent_vectors, action_vector, translated}
use Rattle.prism_check.proofs.Typed.{no_name_fault}
use Rattle.jani_translation.proofs.Each.{n_bodies}
use Rattle.jani_translation.proofs.OneForOne.{one_automaton_each, one_or_none}
use Rattle.jani_translation.proofs.Watched.{n_numbered}
use Rattle.jani_translation_laws.specs.NameLaws.{NoCompositionFaults, NoNameFaults}
use Rattle.jani_translation_laws.proofs.Actions.{IsAction, actions_among}
use Rattle.jani_translation_laws.proofs.Form.{each_only, each_numbered}
use Rattle.jani_translation_laws.proofs.Doubled.{automata_apart, none_doubled}
use Rattle.jani_translation_laws.proofs.Unknown.{none_unknown}
use Rattle.jani_translation_laws.proofs.Circles.{no_circles}
use Rattle.jani_translation.proofs.Counts.{element_total, elements_named}
use Rattle.name_rules.specs.Doubled.{doubled}

-- ---- tests
neither : (a b : Bool) → a ≡ true → b ≡ true → (not a || not b) ≡ false
neither true true h k = refl
neither true false h k = absurd cc
neither false b h k = absurd cc

-- ---- some module has the action
flat_any : {X : Type 0} (p : Name → Bool) (q : X → Bool) (f : X → List Name) → ((x : X) → list_any p (f x) ≡ q x) → (xs : List X) → list_any p (flat_map f xs) ≡ list_any q xs
flat_any p q f h [] = refl
flat_any p q f h (x ∷ xs) = list_any-append p (f x) (flat_map f xs) ∙ ap₂ (λ a b. a || b) (h x) (flat_any p q f h xs)

action_test : (a : Name) (o : Option Name) → list_any (λ y. bytes_eq y a) (if_some o) ≡ same_label (Some a) o
action_test a None = refl
action_test a (Some b) = or-false (bytes_eq b a) ∙ bytes_eq_comm b a

command_test : (a : Name) (m : Body) → list_any (λ y. bytes_eq y a) (flat_map (λ c. if_some (action_of c)) m.commands) ≡ has_command a m
command_test a m = flat_any (λ y. bytes_eq y a) (λ c. same_label (Some a) (action_of c)) (λ c. if_some (action_of c)) (λ c. action_test a (action_of c)) m.commands

some_module : (file : prism.File) (a : Name) → IsAction file a → list_any (λ m. has_command a m) (bodies file) ≡ true
some_module file a h =
    sym (flat_any (λ y. bytes_eq y a) (λ m. has_command a m) (λ m. flat_map (λ c. if_some (action_of c)) m.commands) (command_test a) (bodies file))
    ∙ sym (any_firsts bytes_eq bytes_eq-Decides (λ y. bytes_eq y a) (flat_map (λ m. flat_map (λ c. if_some (action_of c)) m.commands) (bodies file))) ∙ h

-- ---- lengths
module _ (file : prism.File) where
  abbrev n : ℕ
  n = length (element_names (translated file))

  n_elements : n ≡ length (bodies file) + (if has_monitor file then 1 else 0)
  n_elements = element_total file ∙ one_automaton_each file ∙ ap (λ k. k + (if has_monitor file then 1 else 0)) (sym (n_bodies file))

  -- ---- vectors
  abbrev IsFine : Vector → Type 0
  IsFine v = bad_vector n v ≡ []

  fine : (v : Vector) → length v.parts ≡ n → list_any is_some v.parts ≡ true → IsFine v
  fine v l s = fault_none (not (nat_eq (length v.parts) n) || not (list_any is_some v.parts)) v.at BadVector (neither (nat_eq (length v.parts) n) (list_any is_some v.parts) (eq-eqb (length v.parts) n l) s)

  taking_part : (a : Name) (ms : List Body) → list_any (λ m. has_command a m) ms ≡ true →
      list_any is_some (map (λ m. part_if (has_command a m) (made ((new_names file).action a))) ms) ≡ true
  taking_part a [] h = absurd cc
  taking_part a (m ∷ ms) h = by_test (has_command a m) h (taking_part a ms)
    where
      by_test : (b : Bool) → (b || list_any (λ k. has_command a k) ms) ≡ true →
          (list_any (λ k. has_command a k) ms ≡ true → list_any is_some (map (λ k. part_if (has_command a k) (made ((new_names file).action a))) ms) ≡ true) →
          (is_some (part_if b (made ((new_names file).action a))) || list_any is_some (map (λ k. part_if (has_command a k) (made ((new_names file).action a))) ms)) ≡ true
      by_test true q r = refl
      by_test false q r = r q

  action_fine : (a : Name) → IsAction file a → IsFine (action_vector (new_names file) file a)
  action_fine a h =
      let x = made ((new_names file).action a) in
      let ps = map (λ m. part_if (has_command a m) x) (bodies file) in
      let qs = only_if (has_monitor file) (part_if (has_items (for_action a) file) x) in
      fine (action_vector (new_names file) file a)
      (length-append ps qs ∙ ap₂ (λ i j. i + j) (length-map (bodies file) (λ m. part_if (has_command a m) x)) (one_or_none (has_monitor file) (part_if (has_items (for_action a) file) x)) ∙ sym n_elements)
      (list_any-append is_some ps qs ∙ or_left (list_any is_some ps) (list_any is_some qs) (taking_part a (bodies file) (some_module file a h)))

  monitored : earns_silently file ≡ true → has_monitor file ≡ true
  monitored e = or_right (is_some_name (earning_actions file)) (earns_silently file) e

  silent_fine : earns_silently file ≡ true → (i : ℕ) → IsFine (silent_vector file i)
  silent_fine e i =
      let ps = numbered (λ k m. part_if (nat_eq i k) zz_silent ∷ []) 0 (bodies file) in
      let one = ap (λ b. if b then 1 else 0) (monitored e) in
      fine (silent_vector file i)
      (length-append ps (Some zz_silent ∷ []) ∙ ap₂ (λ k j. k + j) (n_numbered (λ k m. part_if (nat_eq i k) zz_silent) 0 (bodies file)) (sym one) ∙ sym n_elements)
      (list_any-append is_some ps (Some zz_silent ∷ []) ∙ or_right (list_any is_some ps) true refl)

  silents_fine : (b : Bool) → earns_silently file ≡ b → Each IsFine (if b then silent_vectors file else [])
  silents_fine true e =
      each_numbered IsFine (λ i m. only_if (has_silent m) (silent_vector file i))
      (λ i m. each_only IsFine (has_silent m) (silent_vector file i) (silent_fine e i)) 0 (bodies file)
  silents_fine false e = tt

  vectors_fine : Each IsFine (translated file).vectors
  vectors_fine =
      each_join IsFine (map (action_vector (new_names file) file) (actions file)) (if earns_silently file then silent_vectors file else [])
      (each_map (IsAction file) IsFine (action_vector (new_names file) file) action_fine (actions file) (actions_among file)) (silents_fine (earns_silently file) refl)

  -- ---- elements
  some_element : pc.no_module file ≡ [] → nat_eq n 0 ≡ false
  some_element h =
      let m = no_fault (nat_eq (length file.modules) 0) file.end Nothing h in
      more (length file.modules) n m (let o = one_automaton_each file in let l = element_total file in (if has_monitor file then 1 else 0, l ∙ o))
    where
      more : (i j : ℕ) → nat_eq i 0 ≡ false → (k : ℕ) × (j ≡ i + k) → nat_eq j 0 ≡ false
      more i j m e = let k = e.0 in let q = e.1 in grind (arith, nat_tests, m, q)

pub no_composition_faults : (file : prism.File) → NoCompositionFaults file
no_composition_faults file flat =
    let t = translated file in
    append_both (repeated_elements t) _ (ap (doubled RepeatedAutomaton) (elements_named file) ∙ not_doubled RepeatedAutomaton (automaton_names t) (automata_apart file))
    (append_both (no_element t) (flat_map (bad_vector (length (element_names t))) t.vectors)
    (fault_none (nat_eq (length (element_names t)) 0) t.elements_at Nothing (some_element file (no_name_fault file flat).modules))
    (each_empty (bad_vector (length (element_names t))) t.vectors (vectors_fine file)))

pub no_name_faults : (file : prism.File) → NoNameFaults file
no_name_faults file flat =
    let t = translated file in
    append_both (doubled_names t) _ (none_doubled file)
    (append_both (unknown_names t) _ (none_unknown file flat)
    (append_both (circles t) (composition_faults t) (no_circles file flat) (no_composition_faults file flat)))
