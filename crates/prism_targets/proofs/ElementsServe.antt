-- What the edges of all elements serve, and which targets these elements block.
use Rattle.std.specs.Prelude.{◌≡◌, ℕ, ◌+◌, ◌-◌, ◌^◌, ◌≤◌, List, [], ◌∷◌, ◌++◌, map, length, Bool, not, ◌&&◌, Option, Some, None, is_none}
use Rattle.std.specs.List.{filter, flat_map}
use Rattle.std.specs.Option.{option_map}
use Rattle.std.proofs.Common.{refl, sym, ap, ap₂, ◌∙◌, arith, append_assoc, length-append}
use Rattle.std.proofs.lemmas.List.{length-map}
use Rattle.std.proofs.lemmas.List.Concat.{flat_map-append}
use Rattle.bridge_io.specs.declared.reason.Named.{Named}
use Rattle.op_trees.specs.Tree.{capped}
use Rattle.process_core.specs.Ready.{same_label}
use Rattle.jani_tree.specs.Syntax.{Edge, Automaton, File}
use Rattle.jani_meaning.specs.Elements as jani
use Rattle.jani_meaning.proofs.Columns.{numbered_at}
use Rattle.prism_translation.specs.Elements.{Element, edges_of, Placed, placed_edges, some_write, is_reward}
use Rattle.prism_translation.specs.Targets.{vector_targets, targets}
use Rattle.prism_translation.proofs.Numbered.{placed_from, numbered_from}
use Rattle.edge_tables.specs.Tables.{places_of, has_action, ranked_from, table_in, split_in, Row, rows_from, edge_serves, Served, element_serves, served_from}
use Rattle.prism_targets.specs.Serving.{edge_in, served_in}
use Rattle.edge_tables.proofs.EdgeTables.{numbers_kept}
use Rattle.edge_tables.proofs.Serves.{within}
use Rattle.edge_tables.proofs.Whole.{el, here, served_all, earns_alone, silent_of}
use Rattle.edge_tables.proofs.Blocked.{blocked_all}

module _ (file : File) (fits : length (targets file) ≤ 2 ^ 64 - 1) where
  abbrev rows : List Row
  rows = rows_from 0 (map (split_in file) file.vectors)

  abbrev first : List Automaton → ℕ
  first us = length (flat_map (vector_targets file) file.vectors) + length (flat_map (silent_of file) (numbered_from 0 us))

  module _ (us ws : List Automaton) (w : Automaton) (autos : jani.elements file ≡ us ++ w ∷ ws) where
    abbrev x : Element
    x = el file us ws w autos

    abbrev pays : Edge → Bool
    pays = some_write (is_reward file (length us))

    each_edge : (n : ℕ) (before after : List Edge) → n ≡ length before → edges_of x ≡ before ++ after →
        map (edge_serves rows (length us) (first us)) (ranked_from pays before after) ≡ map (edge_in file) (placed_from x n after)
    each_edge n before [] is edges = refl
    each_edge n before (e ∷ after) is edges =
        ap₂ (λ (l : List ℕ × Bool) m. l ∷ m)
        (ap₂ (λ (l : List ℕ) (b : Bool). (l, b)) (sym (served_all file us ws w autos before after e edges capped (2 ^ 64 - 1) within fits)) (silent_alike e.action)
        ∙ ap (λ (m : ℕ). edge_in file (record { element = x; number = m; edge = e })) (sym is))
        (each_edge (n + 1) (before ++ e ∷ []) after (let l = length-append before (e ∷ []) in omega (arith, is, l)) (edges ∙ sym (append_assoc before (e ∷ []) after)))
      where
        silent_alike : (o : Option Named) → (is_none (option_map (λ n. n.name) o) && not (pays e)) ≡ (is_none o && not (pays e))
        silent_alike None = refl
        silent_alike (Some n) = refl

    pub element_is : element_serves rows (length us) (first us) (table_in file x) ≡ served_in file x
    element_is =
        ap₂ (λ (l : List (List ℕ × Bool)) (m : List ℕ). record { edges = l; blocked = m }) (each_edge 0 [] (edges_of x) refl refl) (sym (blocked_all file x (here file us ws w autos)))

  -- the number of silent targets before the next element
  next_first : (us : List Automaton) (w : Automaton) → first us + length ((table_in file (record { number = length us; automaton = w })).rewarding None) ≡ first (us ++ w ∷ [])
  next_first us w =
      let a = length-append (flat_map (silent_of file) (numbered_from 0 us)) (silent_of file x ++ []) in
      let b = length-append (silent_of file x) [] in
      let c : length (silent_of file x) ≡ length (filter (earns_alone file) (placed_edges x)) = length-map (filter (earns_alone file) (placed_edges x)) (λ r. record { vector = None; writer = None; maker = Some r }) in
      let d = length-map (filter (earns_alone file) (placed_edges x)) (λ (r : Placed). r.number) in
      let e : length (places_of (λ e. has_action None e && pays e) (edges_of x)) ≡ length (map (λ (r : Placed). r.number) (filter (earns_alone file) (placed_edges x))) =
      ap length (sym (numbers_kept x (earns_alone file) (λ e. has_action None e && pays e) 0 (edges_of x) (λ j e. ap (λ b. b && pays e) (by_action e.action)))) in
      let f : length (flat_map (silent_of file) (numbered_from 0 (us ++ w ∷ []))) ≡ length (flat_map (silent_of file) (numbered_from 0 us) ++ (silent_of file x ++ [])) =
      ap (λ l. length (flat_map (silent_of file) l)) (numbered_at (λ k b. record { number = k; automaton = b } ∷ []) 0 (length us) us (w ∷ []) (omega arith))
      ∙ ap length (flat_map-append (silent_of file) (numbered_from 0 us) (x ∷ [])) in
      omega (arith, a, b, c, d, e, f)
    where
      x : Element
      x = record { number = length us; automaton = w }

      pays : Edge → Bool
      pays = some_write (is_reward file (length us))

      by_action : (b : Option Named) → is_none b ≡ same_label None (option_map (λ n. n.name) b)
      by_action None = refl
      by_action (Some n) = refl

  pub elements_serve : (us ws : List Automaton) → jani.elements file ≡ us ++ ws →
      served_from rows (length us) (first us) (map (table_in file) (numbered_from (length us) ws)) ≡ map (served_in file) (numbered_from (length us) ws)
  elements_serve us [] autos = refl
  elements_serve us (w ∷ ws) autos =
      ap₂ (λ (l : Served) m. l ∷ m) (element_is us ws w autos)
      (ap₂ (λ k n. served_from rows k n (map (table_in file) (numbered_from (length us + 1) ws))) (sym more) (next_first us w)
      ∙ ap (λ k. served_from rows (length (us ++ w ∷ [])) (first (us ++ w ∷ [])) (map (table_in file) (numbered_from k ws))) (sym more)
      ∙ elements_serve (us ++ w ∷ []) ws (autos ∙ sym (append_assoc us (w ∷ []) ws))
      ∙ ap (λ k. map (served_in file) (numbered_from k ws)) more)
    where
      more : length (us ++ w ∷ []) ≡ length us + 1
      more = let l = length-append us (w ∷ []) in omega (arith, l)
