-- What holds of the elements of a file without fault, of their edges, and of the edges that targets are made for.
use Rattle.std.specs.Prelude.{◌≡◌, ℕ, ◌+◌, ◌<◌, List, [], ◌∷◌, map, length, Bool, true, false, not, ◌&&◌, Option, Some, None, slice_get, get_or}
use Rattle.std.specs.List.{flat_map, filter, list_any, zip, All, AllByRecursion as Each}
use Rattle.std.proofs.Common.{refl, sym, ap, ◌∙◌, arith, subst}
use Rattle.std.proofs.lemmas.Option.{slice_get-get_or}
use Rattle.std.proofs.lemmas.List.Elements.{All-nil, All-cons, All-head, All-tail, All-append, All-filter, All-map, filter_passes}
use Rattle.std.proofs.lemmas.Bool.{and_parts}
use Rattle.choice_laws.proofs.Walks.{All-flat_map, found_has}
use Rattle.process_core.specs.Instance.{numbered, only_if}
use Rattle.jani_tree.specs.Syntax.{Edge, Vector, File}
use Rattle.jani_check.specs.Faults.{IsChecked}
use Rattle.jani_meaning.specs.Elements as jani
use Rattle.prism_translation.specs.Entry.{Entry}
use Rattle.prism_translation.specs.Elements.{Element, elements, Placed, placed_edges, rewards}
use Rattle.prism_translation.specs.Targets.{names, edges_named, reward_writer, Target, targets_by, vector_targets, is_silent, silent_targets, targets}
use Rattle.prism_translation.specs.Names.{new_names}
use Rattle.prism_translation.specs.Modules.{Action, actions}
use Rattle.prism_translation.proofs.Numbered.{placed_from, at_element, element_length, element_numbers, automaton_at}
use Rattle.prism_translation_laws.specs.TypeLaws.{own_variables}
use Rattle.prism_translation_laws.proofs.TypedScopes.{each_at, own_are}
use Rattle.prism_translation_laws.proofs.Sources.{IsFineWrite, IsFineEdge, IsFineAutomaton, elements_fine}

-- ---- lists
pub numbered_all : {A B : Type 0} (P : A → Type 0) (Q : B → Type 0) (f : ℕ → A → List B) → ((j : ℕ) (x : A) → P x → All Q (f j x)) → (i : ℕ) (xs : List A) → All P xs → All Q (numbered f i xs)
numbered_all P Q f h i [] a = All-nil Q
numbered_all P Q f h i (x ∷ xs) a = All-append Q (f i x) (numbered f (i + 1) xs) (h i x (All-head P x xs a)) (numbered_all P Q f h (i + 1) xs (All-tail P x xs a))

pub zipped_all : {A B : Type 0} (P : A → Type 0) (xs : List A) (ys : List B) → All P xs → All (λ p. P p.0) (zip xs ys)
zipped_all P [] ys h = All-nil (λ p. P p.0)
zipped_all P (x ∷ xs) [] h = All-nil (λ p. P p.0)
zipped_all P (x ∷ xs) (y ∷ ys) h = All-cons (λ p. P p.0) (x, y) (zip xs ys) (All-head P x xs h) (zipped_all P xs ys (All-tail P x xs h))

pub only_all : {A : Type 0} (P : A → Type 0) (b : Bool) (x : A) → (b ≡ true → P x) → All P (only_if b x)
only_all P true x h = All-cons P x [] (h refl) (All-nil P)
only_all P false x h = All-nil P

placed_all : (P : Edge → Type 0) (n : Element) (i : ℕ) (es : List Edge) → Each P es → All (λ p. P p.edge) (placed_from n i es)
placed_all P n i [] h = All-nil (λ p. P p.edge)
placed_all P n i (e ∷ es) h = All-cons (λ p. P p.edge) (record { element = n; number = i; edge = e }) (placed_from n (i + 1) es) h.0 (placed_all P n (i + 1) es h.1)

-- ---- elements
module _ (file : File) where
  pub element_there : All (λ el. slice_get (jani.elements file) el.number ≡ Some el.automaton) (elements file)
  element_there i d l =
      let el = get_or (elements file) i d in
      let within : i < length (jani.elements file) = let e = element_length 0 (jani.elements file) in omega arith in
      ap (slice_get (jani.elements file)) (element_numbers 0 (jani.elements file) i d within ∙ (let o : 0 + i ≡ i = omega arith in o))
      ∙ slice_get-get_or (jani.elements file) i el.automaton within
      ∙ ap Some (sym (automaton_at 0 (jani.elements file) i d el.automaton within))

module _ (file : File) (checked : IsChecked file) where
  pub record FineElement (el : Element) : Type 0 where
    pub locations : Each (λ l. Each (IsFineWrite file (own_variables file el.number)) l.values) el.automaton.locations
    pub edges : Each (IsFineEdge file (own_variables file el.number)) el.automaton.edges

  pub element_fine : All FineElement (elements file)
  element_fine i d l =
      let el = get_or (elements file) i d in
      let there = element_there file i d l in
      let fine = each_at (IsFineAutomaton file) (jani.elements file) el.number el.automaton (elements_fine file checked) there in
      let own = own_are file el.number el.automaton there in
      record {
        locations = subst (λ vs. Each (λ l. Each (IsFineWrite file vs) l.values) el.automaton.locations) (sym own) fine.locations;
        edges = subst (λ vs. Each (IsFineEdge file vs) el.automaton.edges) (sym own) fine.edges;
      }

  abbrev pub FineEdge : Placed → Type 0
  FineEdge p = IsFineEdge file (own_variables file p.element.number) p.edge

  pub edges_fine : All (λ el. All FineEdge (placed_edges el)) (elements file)
  edges_fine i d l k e m =
      let el = get_or (elements file) i d in
      let p = get_or (placed_edges el) k e in
      subst (λ (n : Element). IsFineEdge file (own_variables file n.number) p.edge) (sym (at_element el 0 el.automaton.edges k e m))
      (placed_all (IsFineEdge file (own_variables file el.number)) el 0 el.automaton.edges (element_fine i d l).edges k e m)

-- ---- targets
module _ (file : File) (Q : Placed → Type 0) where
  -- the edge that a target is made for assigns rewards
  abbrev pub MakerHas : Option Placed → Type 0
  MakerHas None = Unit {0}
  MakerHas (Some p) = Q p × (rewards file p ≡ true)

  abbrev TargetHas : Target → Type 0
  TargetHas t = MakerHas t.maker

  of_writer : (v : Vector) (o : Option Element) → ((el : Element) → o ≡ Some el → All Q (placed_edges el)) → All TargetHas (targets_by file v o)
  of_writer v None h = All-cons TargetHas (record { vector = Some v; writer = None; maker = None }) [] tt (All-nil TargetHas)
  of_writer v (Some el) h =
      All-append TargetHas (map (λ p. record { vector = Some v; writer = Some el.number; maker = Some p }) (filter (rewards file) (edges_named v el)))
      (only_if (list_any (λ p. not (rewards file p)) (edges_named v el)) (record { vector = Some v; writer = Some el.number; maker = None }))
      (All-map TargetHas (λ p. record { vector = Some v; writer = Some el.number; maker = Some p }) (filter (rewards file) (edges_named v el))
      (λ k d l. (
        All-filter (rewards file) Q (edges_named v el) (All-filter (names v) Q (placed_edges el) (h el refl)) k d l,
        filter_passes (rewards file) (edges_named v el) k d l,
      )))
      (only_all TargetHas (list_any (λ p. not (rewards file p)) (edges_named v el)) (record { vector = Some v; writer = Some el.number; maker = None }) (λ e. tt))

  pub makers_have : All (λ el. All Q (placed_edges el)) (elements file) → All TargetHas (targets file)
  makers_have h =
      All-append TargetHas (flat_map (vector_targets file) file.vectors) (silent_targets file)
      (All-flat_map TargetHas (vector_targets file) file.vectors
      (λ i a m. of_writer (get_or file.vectors i a) (reward_writer file (get_or file.vectors i a))
      (λ el e. found_has (λ el. All Q (placed_edges el)) (λ el. list_any (rewards file) (edges_named (get_or file.vectors i a) el)) el (elements file) h e)))
      (All-flat_map TargetHas (λ el. map (λ p. record { vector = None; writer = None; maker = Some p }) (filter (λ p. is_silent p && rewards file p) (placed_edges el))) (elements file)
      (λ i a m.
      let el = get_or (elements file) i a in
      All-map TargetHas (λ p. record { vector = None; writer = None; maker = Some p }) (filter (λ p. is_silent p && rewards file p) (placed_edges el))
      (λ k d l. (
        All-filter (λ p. is_silent p && rewards file p) Q (placed_edges el) (h i a m) k d l,
        (and_parts _ _ (filter_passes (λ p. is_silent p && rewards file p) (placed_edges el) k d l)).1,
      ))))

-- what holds of all targets holds of those of actions
pub actions_have : (file : File) (P : Target → Type 0) → All P (targets file) → All (λ t. P t.target) (actions file (new_names file))
actions_have file P h =
    All-map (λ (t : Action). P t.target) (λ (p : Target × Entry). record { target = p.0; name = p.1.name }) (zip (targets file) (new_names file).actions)
    (zipped_all P (targets file) (new_names file).actions h)
