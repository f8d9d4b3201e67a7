-- Only the monitor assigns rewards on edges, so of each vector one participant alone does.
use Rattle.std.specs.Prelude.{◌≡◌, List, [], ◌∷◌, ◌++◌, map, Bool, true, false, ◌&&◌, ◌||◌, cond, Option, Some, None, bytes_eq}
use Rattle.std.specs.List.{flat_map, find, list_any, AllByRecursion as Each}
use Rattle.std.proofs.Common.{refl, ap, ap₂, ◌∙◌}
use Rattle.std.proofs.lemmas.List.{map-append}
use Rattle.std.proofs.lemmas.Bool.{or_left, or_right}
use Rattle.basics.specs.Texts.{bytes_eq-self}
use Rattle.basics.specs.Lists.{append_both}
use Rattle.bridge_io.specs.declared.reason.Named.{Named}
use Rattle.bridge_io.specs.declared.reason.Reason.TheVariants.{TwoRewardWriters}
use Rattle.process_core.specs.Ready.{Name}
use Rattle.prism_tree.specs.Syntax as prism
use Rattle.process_core.specs.Instance.{only_if}
use Rattle.prism_check.specs.Flattened.{IsFlat}
use Rattle.jani_tree.specs.Syntax.{Write, Automaton, Vector}
use Rattle.name_rules.specs.Least.{fault_if}
use Rattle.jani_check.specs.Things.{is_called, global_thing, is_reward}
use Rattle.jani_check.specs.TypeFaults.{has_action, with_automaton, taken_part, participants}
use Rattle.jani_check.specs.ProfileFaults.{assigns_reward, rewards_with, two_hold, two_writers}
use Rattle.jani_translation.specs.Entry.{Entry}
use Rattle.jani_translation.specs.Asks.{bodies, new_names}
use Rattle.jani_translation.specs.Automata.{zz_monitor, earns_silently, has_monitor, write, destination, edge, automaton, location_values, module_automata, monitor_edges, monitor}
use Rattle.jani_translation.specs.Translated.{translated}
use Rattle.jani_translation_laws.specs.ProfileLaws.{OneRewardWriter}
use Rattle.jani_translation_laws.proofs.Automata.{beside_none}
use Rattle.jani_translation_laws.proofs.EdgeProfile.{no_reward}
use Rattle.jani_translation.proofs.Counts.{elements_named}

-- ---- automata that are found by their names
abbrev has_called : Name → List Automaton → Bool
has_called z as_ = list_any (λ a. is_called z a.name) as_

found_first : (P : Automaton → Bool) (z : Name) (as_ rest : List Automaton) → has_called z as_ ≡ true → Each (λ a. P a ≡ false) as_ →
    with_automaton P false (find (λ a. is_called z a.name) (as_ ++ rest)) ≡ false
found_first P z [] rest h k = absurd cc
found_first P z (a ∷ as_) rest h k = by_answer (bytes_eq a.name.name z) h (λ g. found_first P z as_ rest g k.1)
  where
    by_answer : (b : Bool) → (b || has_called z as_) ≡ true → (has_called z as_ ≡ true → with_automaton P false (find (λ a. is_called z a.name) (as_ ++ rest)) ≡ false) →
        with_automaton P false (cond b (Some a) (find (λ a. is_called z a.name) (as_ ++ rest))) ≡ false
    by_answer true g r = k.0
    by_answer false g r = r g

each_called : (as_ whole : List Automaton) → ((z : Name) → has_called z as_ ≡ true → has_called z whole ≡ true) → Each (λ a. has_called a.name.name whole ≡ true) as_
each_called [] whole h = tt
each_called (a ∷ as_) whole h = (
  h a.name.name (or_left (bytes_eq a.name.name a.name.name) (has_called a.name.name as_) (bytes_eq-self a.name.name)),
  each_called as_ whole (λ z g. h z (or_right (bytes_eq a.name.name z) (has_called z as_) g)),
)

-- ---- one alone may hold
one_holds : (b : Bool) → ((b && false) || false) ≡ false
one_holds true = refl
one_holds false = refl

module _ (file : prism.File) where
  abbrev Writes : Automaton → Name → Bool
  Writes = rewards_with (global_thing (translated file))

  last_alone : (b : Bool) (ps : List (Option Named)) →
      two_hold (participants Writes false (translated file) (map (λ a. a.name) (only_if b (automaton (new_names file) zz_monitor [] (monitor_edges (new_names file) file)))) ps) ≡ false
  last_alone true [] = refl
  last_alone true (p ∷ ps) = one_holds (taken_part Writes false (translated file) zz_monitor p)
  last_alone false ps = refl

  rest_alone : (b c : Bool) (r : Bool) → b ≡ false → r ≡ false → ((b && c) || r) ≡ false
  rest_alone true c r h k = absurd cc
  rest_alone false c r h k = k

  quiet_then : (as_ : List Automaton) (ps : List (Option Named)) →
      Each (λ a. (p : Option Named) → taken_part Writes false (translated file) a.name p ≡ false) as_ →
      two_hold (participants Writes false (translated file) (map (λ a. a.name) as_ ++ map (λ a. a.name) (monitor (new_names file) file)) ps) ≡ false
  quiet_then [] ps h = last_alone (has_monitor file) ps
  quiet_then (a ∷ as_) [] h = refl
  quiet_then (a ∷ as_) (p ∷ ps) h =
      rest_alone (taken_part Writes false (translated file) a.name p)
      (list_any (λ c. c) (participants Writes false (translated file) (map (λ a. a.name) as_ ++ map (λ a. a.name) (monitor (new_names file) file)) ps))
      (two_hold (participants Writes false (translated file) (map (λ a. a.name) as_ ++ map (λ a. a.name) (monitor (new_names file) file)) ps))
      (h.0 p) (quiet_then as_ ps h.1)

module _ (file : prism.File) (flat : IsFlat file) where
  -- ---- the edges of modules assign no rewards
  writes_none : (ws : List prism.Write) (rest : List Write) → list_any (λ w. is_reward (global_thing (translated file) w.target.name)) rest ≡ false →
      list_any (λ w. is_reward (global_thing (translated file) w.target.name)) (map (write (new_names file)) ws ++ rest) ≡ false
  writes_none [] rest h = h
  writes_none (w ∷ ws) rest h = ap₂ (λ a b. a || b) (no_reward file flat w.name.name) (writes_none ws rest h)

  branches_none : (bs : List prism.Branch) →
      list_any (λ w. is_reward (global_thing (translated file) w.target.name)) (flat_map (λ d. d.writes) (map (destination (new_names file)) bs)) ≡ false
  branches_none [] = refl
  branches_none (b ∷ bs) = writes_none b.writes (flat_map (λ d. d.writes) (map (destination (new_names file)) bs)) (branches_none bs)

  and_none : (a b : Bool) → b ≡ false → (a && b) ≡ false
  and_none true b h = h
  and_none false b h = refl

  edges_none : (x : Name) (silently : Bool) (cs : List prism.Command) →
      list_any (λ e. has_action x e && assigns_reward (global_thing (translated file)) e) (map (edge (new_names file) silently) cs) ≡ false
  edges_none x silently [] = refl
  edges_none x silently (c ∷ cs) =
      ap₂ (λ a b. a || b) (and_none (has_action x (edge (new_names file) silently c)) (assigns_reward (global_thing (translated file)) (edge (new_names file) silently c)) (branches_none c.branches))
      (edges_none x silently cs)

  modules_none : (x : Name) (silently : Bool) (values : List Write) (ms : List prism.Body) (es : List Entry) →
      Each (λ a. rewards_with (global_thing (translated file)) a x ≡ false) (module_automata (new_names file) silently values ms es)
  modules_none x silently values [] es = tt
  modules_none x silently values (m ∷ ms) [] = tt
  modules_none x silently values (m ∷ ms) (e ∷ es) = (
    ap (λ g. list_any (λ e. has_action x e && assigns_reward g e) (map (edge (new_names file) silently) m.commands)) (beside_none file) ∙ edges_none x silently m.commands,
    modules_none x silently [] ms es,
  )

  -- ---- vectors
  abbrev of_modules : List Automaton
  of_modules = module_automata (new_names file) (earns_silently file) (location_values (new_names file) file) (bodies file) (new_names file).modules

  taken_none : (a : Automaton) → has_called a.name.name of_modules ≡ true → (p : Option Named) → taken_part (rewards_with (global_thing (translated file))) false (translated file) a.name p ≡ false
  taken_none a h None = refl
  taken_none a h (Some n) =
      found_first (λ a. rewards_with (global_thing (translated file)) a n.name) a.name.name of_modules (monitor (new_names file) file) h
      (modules_none n.name (earns_silently file) (location_values (new_names file) file) (bodies file) (new_names file).modules)

  all_taken : (as_ : List Automaton) → Each (λ a. has_called a.name.name of_modules ≡ true) as_ →
      Each (λ a. (p : Option Named) → taken_part (rewards_with (global_thing (translated file))) false (translated file) a.name p ≡ false) as_
  all_taken [] h = tt
  all_taken (a ∷ as_) h = (taken_none a h.0, all_taken as_ h.1)

  one_writer : (v : Vector) → two_writers (translated file) v ≡ []
  one_writer v =
      ap (λ b. fault_if b v.at TwoRewardWriters)
      (ap (λ es. two_hold (participants (rewards_with (global_thing (translated file))) false (translated file) es v.parts)) (elements_named file ∙ map-append (λ a. a.name) of_modules (monitor (new_names file) file))
      ∙ quiet_then file of_modules v.parts (all_taken of_modules (each_called of_modules of_modules (λ z g. g))))

  all_vectors : (vs : List Vector) → flat_map (two_writers (translated file)) vs ≡ []
  all_vectors [] = refl
  all_vectors (v ∷ vs) = append_both (two_writers (translated file) v) _ (one_writer v) (all_vectors vs)

pub one_reward_writer : (file : prism.File) → OneRewardWriter file
one_reward_writer file flat = all_vectors file flat (translated file).vectors
