-- The parts of a JANI file, gathered by loops.
use Rattle.std.proofs.Common.{◌≡◌, ℕ, ◌+◌, ◌<◌, List, [], ◌∷◌, ◌++◌, map, length, get_or, refl, sym, ap, ap₂, subst, ◌∙◌, arith}
use Rattle.std.specs.Prelude.{zero, suc, not, ◌||◌, Bool, true, false, Some, None, is_some, if◌then◌else◌}
use Rattle.std.specs.List.{filter, find, flat_map}
use Rattle.std.proofs.lemmas.List.Elements.{filter-append}
use Rattle.basics.specs.Lists.{append_parts}
use Rattle.bridge_io.specs.declared.reason.Named.{Named}
use Rattle.process_core.specs.Ready.{Name}
use Rattle.process_core.specs.Instance.{numbered}
use Rattle.jani_tree.specs.declared.syntax.JaniElement.{JaniElement}
use Rattle.jani_tree.specs.declared.syntax.JaniFile.{JaniFile}
use Rattle.jani_tree.specs.Syntax.{Automaton, File, element_names, element_of, file_of}
use Rattle.std.proofs.lemmas.List.{length-map}
use Rattle.bridge_io.specs.declared.reason.Reason.TheVariants.{Unknown}
use Rattle.jani_check.specs.Demands.{outer_demands}
use Rattle.name_rules.specs.Least.{fault_if}
use Rattle.jani_check.specs.NameFaults.{is_among, global_names, automaton_names, doubled_names, unless_known, unknown_by, unknown_in, unknown_names, name_faults}
use Rattle.op_trees.specs.Names.{is_called}
use Rattle.jani_meaning.specs.Elements.{Owned, elements, owned_by, variables}

-- ---- numbered lists
pub filter_numbered : {A B : Type 0} (p : B → Bool) (f : ℕ → A → List B) (i : ℕ) (xs : List A) → filter p (numbered f i xs) ≡ numbered (λ k x. filter p (f k x)) i xs
filter_numbered p f i [] = refl
filter_numbered p f i (x ∷ xs) = filter-append p (f i x) (numbered f (i + 1) xs) ∙ ap (λ l. filter p (f i x) ++ l) (filter_numbered p f (i + 1) xs)

-- the variables that pass a test, owner by owner
pub chosen_are : (p : Owned → Bool) (file : File) →
    filter p (variables file) ≡ filter p (owned_by None file.variables) ++ numbered (λ i a. filter p (owned_by (Some i) a.variables)) 0 (elements file)
chosen_are p file =
    filter-append p (owned_by None file.variables) (numbered (λ i a. owned_by (Some i) a.variables) 0 (elements file))
    ∙ ap (λ l. filter p (owned_by None file.variables) ++ l) (filter_numbered p (λ i a. owned_by (Some i) a.variables) 0 (elements file))

-- ---- elements that are there
known_if : (b : Bool) (at : ℕ) → fault_if (not b) at Unknown ≡ [] → b ≡ true
known_if true at e = refl
known_if false at e = absurd cc

known_at : (known : Name → Bool) (ns : List Named) (k : ℕ) (d : Named) → k < length ns → flat_map (unless_known known) ns ≡ [] → known (get_or ns k d).name ≡ true
known_at known [] k d h e = absurd (omega arith)
known_at known (n ∷ ns) zero d h e = known_if (known n.name) n.at (append_parts (unless_known known n) (flat_map (unless_known known) ns) e).0
known_at known (n ∷ ns) (suc k) d h e = known_at known ns k d (omega arith) (append_parts (unless_known known n) (flat_map (unless_known known) ns) e).1

some_called : (x : Name) (list : List Automaton) → is_among (map (λ a. a.name) list) x ≡ true → is_some (find (λ a. is_called x a.name) list) ≡ true
some_called x [] h = absurd cc
some_called x (a ∷ list) h = by_test (is_called x a.name) h (some_called x list)
  where
    by_test : (b : Bool) → (b || is_among (map (λ c. c.name) list) x) ≡ true → (is_among (map (λ c. c.name) list) x ≡ true → is_some (find (λ c. is_called x c.name) list) ≡ true) →
        is_some (if b then Some a else find (λ c. is_called x c.name) list) ≡ true
    by_test true e r = refl
    by_test false e r = r e

-- in a file without a fault of names each element has an automaton
named_there : (file : File) → name_faults file ≡ [] → (k : ℕ) (d : Named) → k < length (element_names file) →
    is_some (find (λ a. is_called (get_or (element_names file) k d).name a.name) file.automata) ≡ true
named_there file none k d h =
    let unknown = (append_parts (unknown_names file) _ (append_parts (doubled_names file) _ none).1).0 in
    let elements_known = (append_parts (flat_map (unless_known (is_among (automaton_names file))) (element_names file)) _ (append_parts (flat_map (unknown_in (is_among (global_names file)) (is_among file.actions)) file.automata) _
    (append_parts (flat_map (unknown_by (is_among (global_names file))) (outer_demands file)) _ unknown).1).1).0 in
    some_called (get_or (element_names file) k d).name file.automata (known_at (is_among (automaton_names file)) (element_names file) k d h elements_known)

-- the names of elements, as the code has them
pub names_are : (es : List JaniElement) → map (λ e. e.name) es ≡ map (λ e. e.name) (map element_of es)
names_are [] = refl
names_are (e ∷ es) = ap (λ ns. e.name ∷ ns) (names_are es)

pub element_there : (file : JaniFile) → name_faults (file_of file) ≡ [] → (k : ℕ) (d : JaniElement) → k < length file.elements →
    is_some (find (λ a. is_called (get_or file.elements k d).name.name a.name) (file_of file).automata) ≡ true
element_there file none k d h =
    let ns = element_names (file_of file) in
    let long : length ns ≡ length file.elements = sym (ap length (names_are file.elements)) ∙ length-map file.elements (λ e. e.name) in
    let here : get_or ns k d.name ≡ (get_or file.elements k d).name = ap (λ l. get_or l k d.name) (sym (names_are file.elements)) ∙ named_at file.elements k d in
    subst (λ (n : Named). is_some (find (λ a. is_called n.name a.name) (file_of file).automata) ≡ true) here (named_there (file_of file) none k d.name (omega (arith, long)))
  where
    named_at : (es : List JaniElement) (k : ℕ) (d : JaniElement) → get_or (map (λ e. e.name) es) k d.name ≡ (get_or es k d).name
    named_at [] k d = refl
    named_at (e ∷ es) zero d = refl
    named_at (e ∷ es) (suc k) d = named_at es k d
