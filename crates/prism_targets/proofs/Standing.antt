-- Targets that tell their makers by numbers stand for the targets of the file.
use Rattle.std.specs.Prelude.{◌≡◌, ℕ, ◌+◌, ◌-◌, ◌^◌, ◌≤◌, List, [], ◌∷◌, ◌++◌, map, length, Bool, true, false, not, ◌&&◌, Option, Some, None, is_none, slice_get}
use Rattle.std.specs.List.{filter, flat_map, list_any, All}
use Rattle.std.specs.Option.{option_map}
use Rattle.std.proofs.Common.{refl, sym, ap, ap₂, ◌∙◌, arith}
use Rattle.std.proofs.lemmas.List.{length-map, map-append}
use Rattle.std.proofs.lemmas.List.Elements.{All-head, All-tail, All-weaker, All-filter}
use Rattle.bridge_io.specs.declared.reason.Named.{Named}
use Rattle.process_core.specs.Ready.{same_label}
use Rattle.jani_tree.specs.Syntax.{Automaton, Vector, File}
use Rattle.jani_meaning.specs.Elements as jani
use Rattle.process_core.specs.Instance.{only_if}
use Rattle.prism_translation.specs.Elements.{Element, elements, edges_of, Placed, placed_edges, some_write, is_reward, rewards}
use Rattle.prism_translation.specs.Targets.{names, edges_named, reward_writer, targets_by, vector_targets, targets}
use Rattle.prism_translation.proofs.Served.{made, plain}
use Rattle.choice_laws.proofs.Walks.{found_has}
use Rattle.prism_translation.proofs.Numbered.{numbered_from}
use Rattle.edge_tables.specs.Tables.{has_action, table_in, split_by, split_in, rows_from, served_from}
use Rattle.prism_targets.specs.Made.{made_by, made_of, plain_of, vector_made, made_alone, silent_from, edge_at, placed_at, stands_for}
use Rattle.prism_targets.specs.Serving.{served_in}
use Rattle.prism_targets.specs.Code.{served_targets, served_elements}
use Rattle.edge_tables.proofs.EdgeTables.{numbers_kept}
use Rattle.edge_tables.proofs.Members.{IsElement, all_elements, edges_found}
use Rattle.edge_tables.proofs.Whole.{earns_alone, silent_of}
use Rattle.prism_targets.proofs.ElementsServe.{elements_serve}

-- ---- edges
module _ (file : File) where
  -- an edge of the element is found by its number
  abbrev IsFoundIn : Element → Placed → Type 0
  IsFoundIn w q = placed_at file (Some (record { element = w.number; edge = q.number })) ≡ Some q

  edge_found : (w : Element) → IsElement file w → (q : Placed) → slice_get (placed_edges w) q.number ≡ Some q → IsFoundIn w q
  edge_found w h q e = ap (λ (o : Option Element). edge_at o q.number) h ∙ e

  all_found_in : (w : Element) → IsElement file w → All (IsFoundIn w) (placed_edges w)
  all_found_in w h = All-weaker (λ q. slice_get (placed_edges w) q.number ≡ Some q) (IsFoundIn w) (edge_found w h) (placed_edges w) (edges_found w)

  -- ---- of a vector
  module _ (v : Vector) where
    standing : (w : Element) (ps : List Placed) → All (IsFoundIn w) ps →
        map (stands_for file) (map (made_by (split_by file v (Some w))) (map (λ p. p.number) ps)) ≡ map (made file v w) ps
    standing w [] h = refl
    standing w (q ∷ ps) h =
        ap₂ (λ (o : Option Placed) l. record { vector = Some v; writer = Some w.number; maker = o } ∷ l) (All-head (IsFoundIn w) q ps h) (standing w ps (All-tail (IsFoundIn w) q ps h))

    plain_stands : (b : Bool) (o : Option ℕ) → map (stands_for file) (only_if b (record { vector = Some v; writer = o; maker = None })) ≡ only_if b (plain file v o)
    plain_stands true o = refl
    plain_stands false o = refl

    vector_stands : map (stands_for file) (vector_made (split_in file v)) ≡ vector_targets file v
    vector_stands = by_writer (reward_writer file v) refl
      where
        by_writer : (o : Option Element) → reward_writer file v ≡ o → map (stands_for file) (vector_made (split_by file v o)) ≡ targets_by file v o
        by_writer None is = refl
        by_writer (Some w) is =
            map-append (stands_for file) (made_of (split_by file v (Some w))) (plain_of (split_by file v (Some w)))
            ∙ ap₂ (λ l m. l ++ m)
            (standing w (filter (rewards file) (edges_named v w))
            (All-filter (rewards file) (IsFoundIn w) (edges_named v w)
            (All-filter (names v) (IsFoundIn w) (placed_edges w)
            (all_found_in w (found_has (IsElement file) (λ x. list_any (rewards file) (edges_named v x)) w (elements file) (all_elements file) is)))))
            (plain_stands (list_any (λ p. not (rewards file p)) (edges_named v w)) (Some w.number))

  vectors_stand : (vs : List Vector) → map (stands_for file) (flat_map vector_made (map (split_in file) vs)) ≡ flat_map (vector_targets file) vs
  vectors_stand [] = refl
  vectors_stand (v ∷ vs) =
      map-append (stands_for file) (vector_made (split_in file v)) (flat_map vector_made (map (split_in file) vs)) ∙ ap₂ (λ l m. l ++ m) (vector_stands v) (vectors_stand vs)

  -- ---- of silent edges
  alone : (w : Element) (ps : List Placed) → All (IsFoundIn w) ps →
      map (stands_for file) (made_alone w.number (map (λ p. p.number) ps)) ≡ map (λ p. record { vector = None; writer = None; maker = Some p }) ps
  alone w [] h = refl
  alone w (q ∷ ps) h =
      ap₂ (λ (o : Option Placed) l. record { vector = None; writer = None; maker = o } ∷ l) (All-head (IsFoundIn w) q ps h) (alone w ps (All-tail (IsFoundIn w) q ps h))

  silent_numbers : (w : Element) → (table_in file w).rewarding None ≡ map (λ p. p.number) (filter (earns_alone file) (placed_edges w))
  silent_numbers w =
      sym (numbers_kept w (earns_alone file) (λ e. has_action None e && some_write (is_reward file w.number) e) 0 (edges_of w)
      (λ j e. ap (λ b. b && some_write (is_reward file w.number) e) (by_action e.action)))
    where
      by_action : (b : Option Named) → is_none b ≡ same_label None (option_map (λ n. n.name) b)
      by_action None = refl
      by_action (Some n) = refl

  silent_stand : (k : ℕ) (autos : List Automaton) → All (IsElement file) (numbered_from k autos) →
      map (stands_for file) (silent_from k (map (table_in file) (numbered_from k autos))) ≡ flat_map (silent_of file) (numbered_from k autos)
  silent_stand k [] h = refl
  silent_stand k (a ∷ autos) h =
      let w : Element = record { number = k; automaton = a } in
      map-append (stands_for file) (made_alone k ((table_in file w).rewarding None)) (silent_from (k + 1) (map (table_in file) (numbered_from (k + 1) autos)))
      ∙ ap₂ (λ l m. l ++ m)
      (ap (λ (ns : List ℕ). map (stands_for file) (made_alone k ns)) (silent_numbers w)
      ∙ alone w (filter (earns_alone file) (placed_edges w))
      (All-filter (earns_alone file) (IsFoundIn w) (placed_edges w) (all_found_in w (All-head (IsElement file) w (numbered_from (k + 1) autos) h))))
      (silent_stand (k + 1) autos (All-tail (IsElement file) w (numbered_from (k + 1) autos) h))

  -- ---- of the file
  pub targets_stand : map (stands_for file) (served_targets (map (split_in file) file.vectors) (map (table_in file) (elements file))) ≡ targets file
  targets_stand =
      map-append (stands_for file) (flat_map vector_made (map (split_in file) file.vectors)) (silent_from 0 (map (table_in file) (elements file)))
      ∙ ap₂ (λ l m. l ++ m) (vectors_stand file.vectors) (silent_stand 0 (jani.elements file) (all_elements file))

  pub elements_stand : length (targets file) ≤ 2 ^ 64 - 1 →
      served_elements (map (split_in file) file.vectors) (map (table_in file) (elements file)) ≡ map (served_in file) (elements file)
  elements_stand fits =
      ap (λ n. served_from (rows_from 0 (map (split_in file) file.vectors)) 0 n (map (table_in file) (elements file)))
      (sym (length-map (flat_map vector_made (map (split_in file) file.vectors)) (stands_for file)) ∙ ap length (vectors_stand file.vectors) ∙ omega arith)
      ∙ elements_serve file fits [] (jani.elements file) refl
