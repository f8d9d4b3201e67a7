-- No update writes a variable twice: an edge assigns to each once, and the locations have other names.
use Rattle.std.specs.Prelude.{◌≡◌, ℕ, ◌+◌, ◌<◌, List, [], ◌∷◌, ◌++◌, map, max, length, Bool, true, false, Option, Some, None, bytes_eq, get_or}
use Rattle.std.specs.List.{flat_map, filter, All, AllByRecursion as Each}
use Rattle.std.proofs.Common.{refl, sym, ap, ◌∙◌, arith, subst}
use Rattle.std.proofs.lemmas.List.Elements.{All-append, All-map, All-from_recursion}
use Rattle.basics.specs.Texts.{bytes_ne, bytes_eq-self}
use Rattle.basics.specs.Lists.{append_both}
use Rattle.basics.specs.Each.{each_then, each_empty}
use Rattle.bridge_io.specs.declared.reason.Named.{Named}
use Rattle.bridge_io.specs.declared.reason.Reason.{Reason}
use Rattle.bridge_io.specs.declared.reason.Reason.TheVariants.{WrittenTwice}
use Rattle.name_rules.proofs.Plain.{fault_none}
use Rattle.process_core.specs.Ready.{Name}
use Rattle.choice_laws.proofs.Walks.{All-flat_map, flat_map_none}
use Rattle.prism_tree.specs.Syntax as prism
use Rattle.process_core.specs.Instance.{only_if}
use Rattle.prism_check.specs.NameFaults.{clash, doubled_after, doubled}
use Rattle.prism_check.specs.TypeFaults.{repeated_writes}
use Rattle.jani_tree.specs.Syntax.{Write, Destination, File, element_names}
use Rattle.jani_check.specs.TypeFaults.{targets, repeated}
use Rattle.jani_check.specs.Faults.{IsChecked}
use Rattle.jani_meaning.specs.Elements.{lasting, place_of, location_number}
use Rattle.prism_translation.specs.PrismAsks.{NewNames, name_at}
use Rattle.prism_translation.specs.Elements.{Element, elements, has_several, placed_edges}
use Rattle.prism_translation.specs.Targets.{serves, serves_silently, is_blocked}
use Rattle.prism_translation.specs.Names.{new_names}
use Rattle.prism_translation.specs.Parts.{made, counted, location_name}
use Rattle.prism_translation.specs.Modules.{Action, actions, write_by, write, location_write, branch, is_single, command, commands_of, blocking, commands}
use Rattle.prism_translation.proofs.Numbered.{at_element}
use Rattle.prism_translation.proofs.ColumnNames.{below, entries_differ, variable_entry, location_entry}
use Rattle.prism_translation_laws.specs.TypeLaws.{own_variables, WrittenOnce}
use Rattle.prism_translation_laws.proofs.CleanTypes.{Differs, AreApart, after_apart}
use Rattle.prism_translation_laws.proofs.TypedScopes.{placed_at}
use Rattle.prism_translation_laws.proofs.Sources.{IsFineDestination}
use Rattle.prism_translation_laws.proofs.Members.{only_all, edges_fine}

-- names that differ are not doubled
not_doubled : (reason : Reason) (earlier ns : List Named) → AreApart ns → Each (λ m. Each (Differs m) ns) earlier → doubled_after reason earlier ns ≡ []
not_doubled reason earlier [] a h = refl
not_doubled reason earlier (n ∷ ns) a h =
    append_both (flat_map (clash reason n) earlier) (doubled_after reason (n ∷ earlier) ns)
    (each_empty (clash reason n) earlier
    (each_then (λ m. Each (Differs m) (n ∷ ns)) (λ m. clash reason n m ≡ []) (λ m k. fault_none (bytes_eq m.name n.name) (max m.at n.at) reason k.0) earlier h))
    (not_doubled reason (n ∷ earlier) ns a.1 (a.0, each_then (λ m. Each (Differs m) (n ∷ ns)) (λ m. Each (Differs m) ns) (λ m k. k.1) earlier h))

module _ (file : File) where
  abbrev names : NewNames
  names = new_names file

  variables_differ : (i j : ℕ) → i < length (lasting file) → j < length (lasting file) → (i ≡ j → ⊥) → bytes_eq (name_at names.variables i) (name_at names.variables j) ≡ false
  variables_differ i j l k d =
      bytes_ne (name_at names.variables i) (name_at names.variables j)
      (λ e. entries_differ file (length file.constants + i) (length file.constants + j) (omega arith) (omega arith) (λ f. d (omega arith)) (sym (variable_entry file i l) ∙ e ∙ variable_entry file j k))

  location_differs : (k i : ℕ) → k < length (element_names file) → i < length (lasting file) → bytes_eq (name_at names.locations k) (name_at names.variables i) ≡ false
  location_differs k i l h =
      bytes_ne (name_at names.locations k) (name_at names.variables i)
      (λ e. entries_differ file ((length file.constants + length (lasting file)) + k) (length file.constants + i) (omega arith) (omega arith) (λ f. omega arith)
      (sym (location_entry file k l) ∙ e ∙ variable_entry file i h))

  -- ---- what one destination writes
  module _ (el : Element) where
    abbrev new_names_of : List Write → List Named
    new_names_of ws = map (λ w. w.name) (flat_map (write file names el) ws)

    -- a fact of each new name, if it holds of the name of each variable that is assigned
    names_have : (Q : Named → Type 0) (ws : List Write) → Each (λ w. (n : ℕ) → place_of (lasting file) el.number w.target.name ≡ Some n → Q (record { name = name_at names.variables n; at = w.target.at })) ws →
        Each Q (new_names_of ws)
    names_have Q [] h = tt
    names_have Q (w ∷ ws) h = by_place (place_of (lasting file) el.number w.target.name) refl (names_have Q ws h.1)
      where
        by_place : (o : Option ℕ) → place_of (lasting file) el.number w.target.name ≡ o → Each Q (new_names_of ws) → Each Q (map (λ (x : prism.Write). x.name) (write_by file names el o w ++ flat_map (write file names el) ws))
        by_place None e r = r
        by_place (Some n) e r = (h.0 n e, r)

    -- two names of one place are one
    one_place : (x y : Named) (n : ℕ) → Differs x y → place_of (lasting file) el.number x.name ≡ Some n → place_of (lasting file) el.number y.name ≡ Some n → ⊥
    one_place x y n d e f =
        let p = placed_at (lasting file) el.number x.name n e in
        let q = placed_at (lasting file) el.number y.name n f in
        let same : x.name ≡ y.name = sym p.called ∙ q.called in
        let no : false ≡ true = sym d ∙ ap (λ z. bytes_eq z y.name) same ∙ bytes_eq-self y.name in cc

    new_apart : (ws : List Write) → AreApart (targets ws) → AreApart (new_names_of ws)
    new_apart [] a = tt
    new_apart (w ∷ ws) a = by_place (place_of (lasting file) el.number w.target.name) refl (new_apart ws a.1)
      where
        others : (n : ℕ) → place_of (lasting file) el.number w.target.name ≡ Some n → (us : List Write) → Each (Differs w.target) (targets us) →
            Each (λ u. (k : ℕ) → place_of (lasting file) el.number u.target.name ≡ Some k → bytes_eq (name_at names.variables n) (name_at names.variables k) ≡ false) us
        others n e [] d = tt
        others n e (u ∷ us) d = (
          λ k f. variables_differ n k (placed_at (lasting file) el.number w.target.name n e).within (placed_at (lasting file) el.number u.target.name k f).within
              (λ same. one_place w.target u.target k d.0 (e ∙ ap Some same) f),
          others n e us d.1,
        )

        by_place : (o : Option ℕ) → place_of (lasting file) el.number w.target.name ≡ o → AreApart (new_names_of ws) → AreApart (map (λ (x : prism.Write). x.name) (write_by file names el o w ++ flat_map (write file names el) ws))
        by_place None e r = r
        by_place (Some n) e r = (names_have (λ m. bytes_eq (name_at names.variables n) m.name ≡ false) ws (others n e ws a.0), r)

    -- the location is another name
    written_apart : el.number < length (element_names file) → (d : Destination) → AreApart (targets d.writes) → AreApart (map (λ (x : prism.Write). x.name) (location_write file names el d ++ flat_map (write file names el) d.writes))
    written_apart l d a = by_several (has_several el)
      where
        others : (us : List Write) → Each (λ u. (k : ℕ) → place_of (lasting file) el.number u.target.name ≡ Some k → bytes_eq (name_at names.locations el.number) (name_at names.variables k) ≡ false) us
        others [] = tt
        others (u ∷ us) = ((λ k f. location_differs el.number k l (placed_at (lasting file) el.number u.target.name k f).within), others us)

        by_several : (b : Bool) → AreApart (map (λ (x : prism.Write). x.name)
            (only_if b (record { name = made (location_name file names el.number); value = counted (location_number el.automaton d.location.name) }) ++ flat_map (write file names el) d.writes))
        by_several true = (names_have (λ m. bytes_eq (name_at names.locations el.number) m.name ≡ false) d.writes (others d.writes), new_apart d.writes a)
        by_several false = new_apart d.writes a

    -- so none of them is written twice
    destination_once : el.number < length (element_names file) → (single : Bool) (d : Destination) → repeated d.writes ≡ [] → doubled WrittenTwice (map (λ (x : prism.Write). x.name) (branch file names el single d).writes) ≡ []
    destination_once l single d h = not_doubled WrittenTwice [] (map (λ (x : prism.Write). x.name) (branch file names el single d).writes) (written_apart l d (after_apart WrittenTwice [] (targets d.writes) h)) tt

module _ (file : File) (checked : IsChecked file) where
  -- ---- commands
  command_once : All (λ el. All (λ p. (a : Option Name) → repeated_writes (command file (new_names file) el p.edge a) ≡ []) (placed_edges el)) (elements file)
  command_once i d l k b m a =
      let el = get_or (elements file) i d in
      let p = get_or (placed_edges el) k b in
      let fine = subst (λ (z : Element). Each (IsFineDestination file (own_variables file z.number)) p.edge.destinations) (at_element el 0 el.automaton.edges k b m) (edges_fine file checked i d l k b m).1 in
      flat_map_none (λ (x : prism.Branch). doubled WrittenTwice (map (λ (w : prism.Write). w.name) x.writes)) (map (branch file (new_names file) el (is_single file (new_names file) el p.edge.destinations)) p.edge.destinations)
      (All-map (λ (x : prism.Branch). doubled WrittenTwice (map (λ (w : prism.Write). w.name) x.writes) ≡ []) (branch file (new_names file) el (is_single file (new_names file) el p.edge.destinations)) p.edge.destinations
      (λ j c q. destination_once file el (below file i d l) (is_single file (new_names file) el p.edge.destinations) (get_or p.edge.destinations j c)
      (All-from_recursion (IsFineDestination file (own_variables file el.number)) p.edge.destinations fine j c q).2))

  abbrev IsOnce : prism.Command → Type 0
  IsOnce c = repeated_writes c ≡ []

  commands_once : All (λ el. All IsOnce (commands file (new_names file) el)) (elements file)
  commands_once i d l =
      let el = get_or (elements file) i d in
      let acts = actions file (new_names file) in
      All-append IsOnce (flat_map (commands_of file (new_names file) el) (placed_edges el)) (map (λ t. blocking file (new_names file) el t.name) (filter (λ t. is_blocked file el t.target) acts))
      (All-flat_map IsOnce (commands_of file (new_names file) el) (placed_edges el)
      (λ k b m.
      let p = get_or (placed_edges el) k b in
      All-append IsOnce (map (λ t. command file (new_names file) el p.edge (Some t.name)) (filter (λ t. serves file t.target p) acts)) (only_if (serves_silently file p) (command file (new_names file) el p.edge None))
      (All-map IsOnce (λ (t : Action). command file (new_names file) el p.edge (Some t.name)) (filter (λ t. serves file t.target p) acts) (λ j c q. command_once i d l k b m (Some (get_or (filter (λ (t : Action). serves file t.target p) acts) j c).name)))
      (only_all IsOnce (serves_silently file p) (command file (new_names file) el p.edge None) (λ e. command_once i d l k b m None))))
      (All-map IsOnce (λ (t : Action). blocking file (new_names file) el t.name) (filter (λ t. is_blocked file el t.target) acts) (λ j c q. refl))

pub written_once : (file : File) → WrittenOnce file
written_once file checked i d l = flat_map_none repeated_writes (commands file (new_names file) (get_or (elements file) i d)) (commands_once file checked i d l)
