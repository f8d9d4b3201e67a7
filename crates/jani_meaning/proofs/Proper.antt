-- The edges of a file keep states, so its good choices are distributions over states; and its marks are its transient
-- variables.
use Rattle.std.specs.Prelude.{◌≡◌, ℕ, suc, ◌+◌, List, [], ◌∷◌, map, Option, Some, None, slice_get}
use Rattle.std.specs.List.{All, flat_map, filter}
use Rattle.std.proofs.Common.{refl, ap₂, subst, ◌∙◌, arith, length-append}
use Rattle.std.proofs.lemmas.List.{length-map}
use Rattle.std.proofs.lemmas.List.Elements.{All-nil, All-cons, All-head, All-tail, All-append, All-map, All-weaker, All-filter}
use Rattle.process_core.specs.States.{keeps_write_to}
use Rattle.basics.specs.Members.{all_each}
use Rattle.op_trees.specs.Seen.{Seen}
use Rattle.process_core.specs.Ready.{Values, Name, Write, Ready, Sum, Vector, has_action, alone, silent, together, taking, of_elements}
use Rattle.process_core.specs.Product.{All-one_of_each}
use Rattle.process_core.specs.Distribution.{KeepsStates, KeepsAll, choices_proper}
use Rattle.jani_tree.specs.Syntax.{Destination, Edge, Automaton, File}
use Rattle.process_core.specs.Instance.{Valuation, Column, is_state, numbered}
use Rattle.jani_meaning.specs.Elements.{elements, labels, structures, location_number, column_number, lasting}
use Rattle.jani_meaning.specs.Scene.{column, constant_names, columns_of}
use Rattle.jani_meaning.specs.Moment.{column_write, location_write, write_at, update_at, edge_at, element_at, transient_at, is_current, moment}
use Rattle.jani_meaning.specs.Process.{combinations}
use Rattle.jani_meaning.specs.Laws.{ChoicesAreProper, MarksOfTransients}
use Rattle.jani_meaning.proofs.Columns.{keeps_location, domain_of_location}

-- ---- lists
each_flat : {X Y : Type 0} (P : Y → Type 0) (f : X → List Y) → ((x : X) → All P (f x)) → (xs : List X) → All P (flat_map f xs)
each_flat P f h [] = All-nil P
each_flat P f h (x ∷ xs) = All-append P (f x) (flat_map f xs) (h x) (each_flat P f h xs)

each_numbered : {X Y : Type 0} (P : Y → Type 0) (f : ℕ → X → List Y) (i : ℕ) (xs : List X) → ((k : ℕ) (x : X) → slice_get xs k ≡ Some x → All P (f (i + k) x)) →
    All P (numbered f i xs)
each_numbered P f i [] h = All-nil P
each_numbered P f i (x ∷ xs) h =
    All-append P (f i x) (numbered f (i + 1) xs)
    (subst (λ n. All P (f n x)) (let e : i + 0 ≡ i = omega arith in e) (h 0 x refl))
    (each_numbered P f (i + 1) xs (λ k y e. subst (λ n. All P (f n y)) (let d : i + suc k ≡ i + 1 + k = omega arith in d) (h (suc k) y e)))

-- ---- what holds of all edges holds of the participants of combinations
module _ (P : Ready → Type 0) where
  of_silent : (rewards : List Sum) (es : List (List Ready)) → All (All P) es → All (λ c. All P c.participants) (silent rewards es)
  of_silent rewards [] h = All-nil (λ c. All P c.participants)
  of_silent rewards (e ∷ es) h =
      All-append (λ c. All P c.participants) (map (alone rewards) (filter (has_action None) e)) (silent rewards es)
      (All-map (λ c. All P c.participants) (alone rewards) (filter (has_action None) e)
      (All-weaker P (λ r. All P (r ∷ [])) (λ r p. All-cons P r [] p (All-nil P)) (filter (has_action None) e)
      (All-filter (has_action None) P e (All-head (All P) e es h))))
      (of_silent rewards es (All-tail (All P) e es h))

  of_taking : (parts : List (Option Name)) (es : List (List Ready)) → All (All P) es → All (All P) (taking parts es)
  of_taking [] es h = All-nil (All P)
  of_taking (p ∷ parts) [] h = All-nil (All P)
  of_taking (None ∷ parts) (e ∷ es) h = of_taking parts es (All-tail (All P) e es h)
  of_taking (Some a ∷ parts) (e ∷ es) h =
      All-cons (All P) (filter (has_action (Some a)) e) (taking parts es) (All-filter (has_action (Some a)) P e (All-head (All P) e es h)) (of_taking parts es (All-tail (All P) e es h))

  of_all : (rewards : List Sum) (vectors : List Vector) (es : List (List Ready)) → All (All P) es → All (λ c. All P c.participants) (of_elements rewards vectors es)
  of_all rewards vectors es h =
      All-append (λ c. All P c.participants) (silent rewards es) (flat_map (λ v. together v.result rewards (taking v.parts es)) vectors) (of_silent rewards es h)
      (each_flat (λ c. All P c.participants) (λ v. together v.result rewards (taking v.parts es))
      (λ v. All-map (λ c. All P c.participants) (λ rs. record { label = v.result; rewards = rewards; participants = rs }) _ (All-one_of_each P (taking v.parts es) (of_taking v.parts es h))) vectors)

-- ---- edges keep states
keeps_column : (cs : List Column) (o : Option ℕ) (value : Seen) → All (KeepsStates (is_state cs)) (column_write cs o value)
keeps_column cs None value = All-nil (KeepsStates (is_state cs))
keeps_column cs (Some k) value = All-cons (KeepsStates (is_state cs)) _ [] (keeps_write_to cs k value) (All-nil (KeepsStates (is_state cs)))

module _ (file : File) (v : Valuation) (s : Values) where
  abbrev keeps : Write → Type 0
  keeps w = KeepsStates (is_state (columns_of file v)) w

  update_keeps : (i : ℕ) (a : Automaton) → slice_get (elements file) i ≡ Some a → (d : Destination) → All keeps (update_at file v s i a d).writes
  update_keeps i a e d =
      All-cons keeps (location_write i (location_number a d.location.name)) _
      (keeps_location (columns_of file v) i a d.location.name (domain_of_location (elements file) (map (λ o. column (constant_names file v) o.var) (lasting file)) i a e))
      (each_flat keeps (write_at file v s i) (λ w. keeps_column (columns_of file v) (column_number file i w.target.name) _) d.writes)

  edge_keeps : (i : ℕ) (a : Automaton) → slice_get (elements file) i ≡ Some a → (g : Edge) → KeepsAll (is_state (columns_of file v)) (edge_at file v s i a g)
  edge_keeps i a e g = All-map (λ u. All keeps u.writes) (update_at file v s i a) g.destinations (all_each _ (update_keeps i a e) g.destinations)

  element_keeps : (i : ℕ) (a : Automaton) → slice_get (elements file) i ≡ Some a → All (KeepsAll (is_state (columns_of file v))) (element_at file v s i a)
  element_keeps i a e = All-map (KeepsAll (is_state (columns_of file v))) (edge_at file v s i a) _ (all_each _ (edge_keeps i a e) (filter (λ g. is_current s i a g.location.name) a.edges))

  all_keep : All (All (KeepsAll (is_state (columns_of file v)))) (moment file v s).elements
  all_keep =
      each_numbered (All (KeepsAll (is_state (columns_of file v)))) (λ i a. element_at file v s i a ∷ []) 0 (elements file)
      (λ k a e. All-cons (All (KeepsAll (is_state (columns_of file v)))) _ [] (subst (λ n. All (KeepsAll (is_state (columns_of file v))) (element_at file v s n a)) (let d : k ≡ 0 + k = omega arith in d) (element_keeps k a e))
      (All-nil (All (KeepsAll (is_state (columns_of file v))))))

pub choices_are_proper : (file : File) → ChoicesAreProper file
choices_are_proper file v s h =
    choices_proper (is_state (columns_of file v)) s (combinations (moment file v s)) h
    (of_all (KeepsAll (is_state (columns_of file v))) _ (moment file v s).vectors (moment file v s).elements (all_keep file v s))

-- ---- marks
pub marks_of_transients : (file : File) → MarksOfTransients file
marks_of_transients file v s =
    length-append _ _
    ∙ ap₂ (λ a b. a + b) (length-map (map (transient_at file v s) (labels file)) _ ∙ length-map (labels file) (transient_at file v s))
    (length-map (map (transient_at file v s) (structures file)) _ ∙ length-map (structures file) (transient_at file v s))
