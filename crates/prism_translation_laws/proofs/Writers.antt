-- In each vector some element takes part, and edges of one element alone assign rewards.
use Rattle.std.specs.Prelude.{◌≡◌, ℕ, suc, ◌+◌, List, [], ◌∷◌, map, length, Bool, true, false, not, ◌&&◌, ◌||◌, cond, Option, Some, None, is_some, nat_eq, slice_get, bytes_eq}
use Rattle.std.specs.List.{find, list_any, All, AllByRecursion as OfAll}
use Rattle.std.specs.Option.{option_map}
use Rattle.std.proofs.Common.{refl, sym, ap, ap₂, ◌∙◌, arith}
use Rattle.std.proofs.lemmas.Bool.{eqb-true, or_parts, not-false}
use Rattle.std.proofs.lemmas.List.{length-map}
use Rattle.std.proofs.lemmas.List.Folds.{list_any-append}
use Rattle.std.proofs.lemmas.Option.{same_Some}
use Rattle.std.proofs.Math.Bool.{or-false}
use Rattle.std.proofs.lemmas.List.Elements.{All-from_recursion}
use Rattle.basics.specs.Texts.{bytes_eq_comm}
use Rattle.basics.specs.Each.{each_then, each_with}
use Rattle.basics.specs.Members.{any_agree, any_never}
use Rattle.bridge_io.specs.declared.reason.Named.{Named}
use Rattle.bridge_io.specs.declared.reason.Reason.TheVariants.{BadVector, TwoRewardWriters}
use Rattle.name_rules.proofs.Plain.{no_fault}
use Rattle.choice_laws.proofs.Walks.{any-filter, any-flat_map}
use Rattle.process_core.specs.Instance.{numbered}
use Rattle.jani_tree.specs.Syntax.{Edge, Location, Automaton, Vector, File, element_names}
use Rattle.jani_tree.specs.Syntax.{Element as Part}
use Rattle.jani_meaning.specs.Loops.{loop_at, loops, with_loops}
use Rattle.jani_check.specs.declared.things.Thing.{Thing}
use Rattle.jani_check.specs.Things.{Name, is_called, is_reward as is_reward_thing, global_thing, beside}
use Rattle.basics.specs.Options.{if_some}
use Rattle.jani_check.specs.NameFaults.{bad_vector}
use Rattle.jani_check.specs.TypeFaults.{has_action, with_automaton, taken_part, participants}
use Rattle.jani_check.specs.ProfileFaults.{assigns_reward, rewards_with, two_hold, two_writers}
use Rattle.jani_check.specs.Faults.{IsChecked}
use Rattle.jani_meaning.specs.Elements as jani
use Rattle.prism_translation.specs.Elements.{Element, elements, placed_edges, action_of, some_write, is_reward, rewards}
use Rattle.prism_translation.specs.Targets.{name_in, part_of, is_named, names, edges_named}
use Rattle.prism_translation.specs.Sound.{HasPart, HasOneWriter}
use Rattle.prism_translation.proofs.Lists.{any-numbered}
use Rattle.prism_translation.proofs.Scopes.{has_number}
use Rattle.prism_translation.proofs.Clean.{vectors_fit, one_writer_each}
use Rattle.prism_translation.proofs.Elements.{IsElement, element, elements_are, own_are, judged_element}
use Rattle.jani_meaning.specs.LoopLaws.{element_count}

-- ---- vectors
some-name : (p : Option Named) → is_some (option_map (λ n. n.name) p) ≡ is_some p
some-name None = refl
some-name (Some n) = refl

-- its parts are those of elements from this number on
module _ (v : Vector) where
  abbrev HasParts : ℕ → List (Option Named) → Type 0
  HasParts k ps = (i : ℕ) → slice_get v.parts (k + i) ≡ slice_get ps i

  first_part : (k : ℕ) (p : Option Named) (ps : List (Option Named)) → HasParts k (p ∷ ps) → slice_get v.parts k ≡ Some p
  first_part k p ps h = let here : k ≡ k + 0 = omega arith in ap (slice_get v.parts) here ∙ h 0

  next_parts : (k : ℕ) (p : Option Named) (ps : List (Option Named)) → HasParts k (p ∷ ps) → HasParts (k + 1) ps
  next_parts k p ps h i = let on : (k + 1) + i ≡ k + suc i = omega arith in ap (slice_get v.parts) on ∙ h (suc i)

  some_part : (file : File) (k : ℕ) (as_ : List Automaton) (ps : List (Option Named)) → length ps ≡ length as_ → HasParts k ps →
      list_any (λ (el : Element). is_some (part_of v el.number)) (numbered (element file) k as_) ≡ list_any is_some ps
  some_part file k [] [] e h = refl
  some_part file k [] (p ∷ ps) e h = absurd (let no : ⊥ = omega arith in no)
  some_part file k (a ∷ as_) [] e h = absurd (let no : ⊥ = omega arith in no)
  some_part file k (a ∷ as_) (p ∷ ps) e h =
      ap₂ (λ x y. x || y) (ap (λ o. is_some (name_in o)) (first_part k p ps h) ∙ some-name p)
      (some_part file (k + 1) as_ ps (omega arith) (next_parts k p ps h))

all_parts : (v : Vector) → HasParts v 0 v.parts
all_parts v i = let on : 0 + i ≡ i = omega arith in ap (slice_get v.parts) on

-- ---- loops assign no rewards
looped_pays : (global : Name → Option Thing) (xs : List Named) (a : Automaton) (x : Name) → rewards_with global (with_loops xs a) x ≡ rewards_with global a x
looped_pays global [] a x = refl
looped_pays global (y ∷ ys) a x =
    list_any-append (pays_with x) a.edges (loops (y ∷ ys) a) ∙ ap (λ b. list_any (pays_with x) a.edges || b) (none (y ∷ ys)) ∙ or-false (list_any (pays_with x) a.edges)
  where
    pays_with : Name → Edge → Bool
    pays_with x e = has_action x e && assigns_reward (beside global a.variables) e

    never : (b : Bool) → (b && false) ≡ false
    never true = refl
    never false = refl

    each_none : (z : Named) (ls : List Location) → list_any (pays_with x) (map (loop_at a z) ls) ≡ false
    each_none z [] = refl
    each_none z (l ∷ ls) = ap₂ (λ b c. b || c) (never (has_action x (loop_at a z l))) (each_none z ls)

    none : (zs : List Named) → list_any (pays_with x) (loops zs a) ≡ false
    none [] = refl
    none (z ∷ zs) = list_any-append (pays_with x) (map (loop_at a z) a.locations) (loops zs a) ∙ ap₂ (λ b c. b || c) (each_none z a.locations) (none zs)

-- ---- edges with an action that assign rewards
module _ (file : File) (c : IsChecked file) (v : Vector) where
  -- the element has such an edge with the action that the vector names
  abbrev pays : Element → Bool
  pays el = list_any (rewards file) (edges_named v el)

  pays_edges : (el : Element) → pays el ≡ list_any (λ e. is_named (part_of v el.number) (action_of e) && some_write (is_reward file el.number) e) el.automaton.edges
  pays_edges el =
      any-filter (rewards file) (names v) (placed_edges el)
      ∙ any-numbered (λ p. names v p && rewards file p) (λ i e. record { element = el; number = i; edge = e } ∷ []) (λ e. is_named (part_of v el.number) (action_of e) && some_write (is_reward file el.number) e)
      (λ i e. or-false (is_named (part_of v el.number) (action_of e) && some_write (is_reward file el.number) e)) 0 el.automaton.edges

  same_action : (x : Name) (e : Edge) → is_named (Some x) (action_of e) ≡ has_action x e
  same_action x e = by_action e.action
    where
      by_action : (o : Option Named) → is_named (Some x) (option_map (λ a. a.name) o) ≡ list_any (is_called x) (if_some o)
      by_action None = refl
      by_action (Some n) = bytes_eq_comm x n.name ∙ sym (or-false (bytes_eq n.name x))

  module _ (el : Element) (is : IsElement file el) where
    same_rewards : (e : Edge) → some_write (is_reward file el.number) e ≡ assigns_reward (beside (global_thing file) el.automaton.variables) e
    same_rewards e =
        any_agree (λ d. list_any (is_reward file el.number) d.writes) (λ d. list_any (λ w. is_reward_thing (beside (global_thing file) el.automaton.variables w.target.name)) d.writes)
        (λ d. any_agree (is_reward file el.number) (λ w. is_reward_thing (beside (global_thing file) el.automaton.variables w.target.name))
        (λ w. has_number file el.number (judged_element file c el is).names w.target.name ∙ ap (λ vs. is_reward_thing (beside (global_thing file) vs w.target.name)) (own_are file c el is)) d.writes) e.destinations
        ∙ sym (any-flat_map (λ w. is_reward_thing (beside (global_thing file) el.automaton.variables w.target.name)) (λ d. d.writes) e.destinations)

    -- loops assign nothing, so the automaton pays as the element does
    own_pays : (x : Name) → rewards_with (global_thing file) is.own x ≡ rewards_with (global_thing file) el.automaton x
    own_pays x = sym (looped_pays (global_thing file) is.part.enable is.own x) ∙ ap (λ a. rewards_with (global_thing file) a x) (sym is.looped)

    part_pays : (p : Option Named) → slice_get v.parts el.number ≡ Some p → taken_part (rewards_with (global_thing file)) false file is.part.name p ≡ pays el
    part_pays None e =
        sym (pays_edges el
        ∙ ap (λ o. list_any (λ e. is_named o (action_of e) && some_write (is_reward file el.number) e) el.automaton.edges) (ap name_in e)
        ∙ any_never el.automaton.edges)
    part_pays (Some n) e =
        ap (with_automaton (λ a. rewards_with (global_thing file) a n.name) false) is.found
        ∙ own_pays n.name
        ∙ sym (pays_edges el
        ∙ ap (λ o. list_any (λ e. is_named o (action_of e) && some_write (is_reward file el.number) e) el.automaton.edges) (ap name_in e)
        ∙ any_agree (λ e. is_named (Some n.name) (action_of e) && some_write (is_reward file el.number) e) (λ e. has_action n.name e && assigns_reward (beside (global_thing file) el.automaton.variables) e)
        (λ e. ap₂ (λ a b. a && b) (same_action n.name e) (same_rewards e)) el.automaton.edges)

  -- what the participants do is what the elements do
  parts_pay : (k : ℕ) (es : List Part) (ps : List (Option Named)) → length ps ≡ length es → HasParts v k ps → ((i : ℕ) → slice_get file.elements (k + i) ≡ slice_get es i) →
      OfAll (IsElement file) (numbered (element file) k (map (jani.element_automaton file) es)) →
      participants (rewards_with (global_thing file)) false file (map (λ e. e.name) es) ps ≡ map pays (numbered (element file) k (map (jani.element_automaton file) es))
  parts_pay k [] ps e h at is = refl
  parts_pay k (n ∷ ns) [] e h at is = absurd (let no : ⊥ = omega arith in no)
  parts_pay k (n ∷ ns) (p ∷ ps) e h at is =
      let here : k ≡ k + 0 = omega arith in
      let part : n ≡ is.0.part = same_Some n is.0.part (sym (ap (slice_get file.elements) here ∙ at 0) ∙ is.0.stands) in
      ap₂ (λ x xs. x ∷ xs)
      (ap (λ (m : Part). taken_part (rewards_with (global_thing file)) false file m.name p) part
      ∙ part_pays (record { number = k; automaton = jani.element_automaton file n }) is.0 p (first_part v k p ps h))
      (parts_pay (k + 1) ns ps (omega arith) (next_parts v k p ps h) (λ i. let on : (k + 1) + i ≡ k + suc i = omega arith in ap (slice_get file.elements) on ∙ at (suc i)) is.1)

  one_alone : (els : List Element) (w : Element) → two_hold (map pays els) ≡ false → find pays els ≡ Some w → OfAll (λ el. (el.number ≡ w.number → ⊥) → pays el ≡ false) els
  one_alone [] w h e = tt
  one_alone (el ∷ els) w h e = by_test (pays el) refl e (or_parts _ (two_hold (map pays els)) h) (one_alone els w)
    where
      others : (xs : List Element) → list_any (λ b. b) (map pays xs) ≡ false → OfAll (λ x. (x.number ≡ w.number → ⊥) → pays x ≡ false) xs
      others [] f = tt
      others (x ∷ xs) f = let both = or_parts (pays x) (list_any (λ b. b) (map pays xs)) f in ((λ d. both.0), others xs both.1)

      by_test : (b : Bool) → pays el ≡ b → cond b (Some el) (find pays els) ≡ Some w → (((b && list_any (λ b. b) (map pays els)) ≡ false) × (two_hold (map pays els) ≡ false)) →
          (two_hold (map pays els) ≡ false → find pays els ≡ Some w → OfAll (λ x. (x.number ≡ w.number → ⊥) → pays x ≡ false) els) →
          ((el.number ≡ w.number → ⊥) → pays el ≡ false) × OfAll (λ x. (x.number ≡ w.number → ⊥) → pays x ≡ false) els
      by_test true f g both ih = ((λ d. absurd (d (ap (λ (x : Element). x.number) (same_Some el w g)))), others els both.0)
      by_test false f g both ih = ((λ d. f), ih both.1 g)

  record Fits : Type 0 where
    long : length v.parts ≡ length (element_names file)
    some : list_any is_some v.parts ≡ true

  fits : bad_vector (length (element_names file)) v ≡ [] → Fits
  fits e =
      let both = or_parts (not (nat_eq (length v.parts) (length (element_names file)))) (not (list_any is_some v.parts)) (no_fault _ v.at BadVector e) in
      record { long = eqb-true (length v.parts) (length (element_names file)) (not-false _ both.0); some = not-false _ both.1 }

  has_part : bad_vector (length (element_names file)) v ≡ [] → HasPart file v
  has_part e =
      let f = fits e in
      some_part v file 0 (jani.elements file) v.parts (f.long ∙ sym (element_count file)) (all_parts v) ∙ f.some

  has_one_writer : bad_vector (length (element_names file)) v ≡ [] → two_writers file v ≡ [] → HasOneWriter file v
  has_one_writer e t w found =
      let f = fits e in
      All-from_recursion (λ el. (el.number ≡ w.number → ⊥) → pays el ≡ false) (elements file)
      (one_alone (elements file) w
      (ap two_hold (sym (parts_pay 0 file.elements v.parts (f.long ∙ length-map file.elements (λ e. e.name)) (all_parts v) (λ i. let on : 0 + i ≡ i = omega arith in ap (slice_get file.elements) on) (elements_are file c)))
      ∙ no_fault _ v.at TwoRewardWriters t) found)

module _ (file : File) (c : IsChecked file) where
  pub vectors_have_parts : All (HasPart file) file.vectors
  vectors_have_parts =
      All-from_recursion (HasPart file) file.vectors (each_then (λ v. bad_vector (length (element_names file)) v ≡ []) (HasPart file) (λ v e. has_part file c v e) file.vectors (vectors_fit file c))

  pub one_writer_each_vector : All (HasOneWriter file) file.vectors
  one_writer_each_vector =
      All-from_recursion (HasOneWriter file) file.vectors
      (each_with (λ v. bad_vector (length (element_names file)) v ≡ []) (λ v. two_writers file v ≡ []) (HasOneWriter file)
      (λ v e t. has_one_writer file c v e t) file.vectors (vectors_fit file c) (one_writer_each file c))
