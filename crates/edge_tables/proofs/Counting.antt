-- How many actions edges serve, how many targets elements block, and what the translation of a file has of commands and nodes.
use Rattle.std.specs.Prelude.{◌≡◌, ℕ, ◌+◌, ◌-◌, ◌*◌, List, [], ◌∷◌, ◌++◌, map, length, Bool, true, false, not, ◌&&◌, cond, Option, Some, None, is_none, if◌then◌else◌}
use Rattle.std.specs.List.{filter, flat_map, sum_by}
use Rattle.std.specs.Option.{option_map}
use Rattle.std.proofs.Common.{refl, sym, ap, ap₂, ◌∙◌, subst, arith, append_assoc, length-append}
use Rattle.std.proofs.lemmas.List.Sums.{sum_by-cons}
use Rattle.std.proofs.lemmas.List.FromFn.{length-range_with_len}
use Rattle.bridge_io.specs.declared.reason.Named.{Named}
use Rattle.jani_tree.specs.Syntax.{Edge, Automaton, File}
use Rattle.jani_meaning.specs.Elements as jani
use Rattle.process_core.specs.Instance.{only_if}
use Rattle.prism_translation.specs.Elements.{Element, elements, edges_of, Placed, placed_edges, action_of, some_write, is_reward, rewards}
use Rattle.prism_translation.specs.Targets.{is_another, targets, serves, serves_silently, is_blocked}
use Rattle.prism_translation.specs.Refused.{served, edge_nodes, result_nodes, result_commands}
use Rattle.prism_translation.proofs.Numbered.{placed_from, numbered_from}
use Rattle.process_core.specs.Often.{sum_by-flat_map}
use Rattle.edge_tables.specs.Tables.{Ranked, ranked, ranked_from, table_in, Split, split_in, split_count, Row, row_at, rows_from, all_numbers, numbers_by, calls, served_under, blocks}
use Rattle.edge_tables.specs.Counts.{weight, names_split, action_count, blocks_split, edge_count, commands_from, nodes_from}
use Rattle.edge_tables.proofs.Numbered.{count_places}
use Rattle.edge_tables.proofs.Serves.{ended}
use Rattle.edge_tables.proofs.Whole.{el, here, first, served_all}
use Rattle.edge_tables.proofs.Blocked.{blocked_all}

-- ---- rows
n_all : (s : ℕ) (x : Split) → length (all_numbers (row_at s x)) ≡ split_count x
n_all s x = length-range_with_len s (s + split_count x - s) ∙ ended s (split_count x)

n_numbers : (cap : ℕ → ℕ) (k : ℕ) (a : Ranked) (s : ℕ) (x : Split) → length (numbers_by cap k a (row_at s x)) ≡ weight k x
n_numbers cap k a s x = by_test (is_another k x.writer)
  where
    by_test : (b : Bool) → length (if b then all_numbers (row_at s x) else (if a.rewarding then cap (s + a.rank) else s + length x.makers) ∷ []) ≡ (if b then split_count x else 1)
    by_test true = n_all s x
    by_test false = refl

-- lists of rows that pass a test, by how long each is
n_rows : (t : Row → Bool) (u : Split → Bool) (f : Row → List ℕ) (g : Split → ℕ) → ((s : ℕ) (x : Split) → t (row_at s x) ≡ u x) → ((s : ℕ) (x : Split) → length (f (row_at s x)) ≡ g x) →
    (s : ℕ) (xs : List Split) → length (flat_map f (filter t (rows_from s xs))) ≡ sum_by g (filter u xs)
n_rows t u f g same long s [] = refl
n_rows t u f g same long s (x ∷ xs) =
    ap (λ b. length (flat_map f (cond b (row_at s x ∷ filter t (rows_from (s + split_count x) xs)) (filter t (rows_from (s + split_count x) xs))))) (same s x)
    ∙ by_test (u x) (n_rows t u f g same long (s + split_count x) xs)
  where
    by_test : (b : Bool) → length (flat_map f (filter t (rows_from (s + split_count x) xs))) ≡ sum_by g (filter u xs) →
        length (flat_map f (cond b (row_at s x ∷ filter t (rows_from (s + split_count x) xs)) (filter t (rows_from (s + split_count x) xs)))) ≡ sum_by g (cond b (x ∷ filter u xs) (filter u xs))
    by_test true e =
        length-append (f (row_at s x)) (flat_map f (filter t (rows_from (s + split_count x) xs))) ∙ ap₂ (λ m n. m + n) (long s x) e ∙ sym (sum_by-cons g x (filter u xs))
    by_test false e = e

-- ---- edges and elements
module _ (file : File) where
  abbrev pub splits : List Split
  splits = map (split_in file) file.vectors

  module _ (us ws : List Automaton) (w : Automaton) (autos : jani.elements file ≡ us ++ w ∷ ws) where
    abbrev x : Element
    x = el file us ws w autos

    served_is : (before after : List Edge) (e : Edge) (edges : edges_of x ≡ before ++ e ∷ after) →
        served file (record { element = x; number = length before; edge = e }) ≡ action_count splits (length us) (action_of e)
    served_is before after e edges =
        ap (λ n. n + (if serves_silently file p then 1 else 0))
        (sym (count_places (λ t. serves file t p) 0 (targets file))
        ∙ ap length (served_all file us ws w autos before after e edges (λ n. n) (length (targets file)) (λ n l. refl) (omega arith)))
        ∙ by_action e.action refl
      where
        p : Placed
        p = record { element = x; number = length before; edge = e }

        a : Ranked
        a = ranked (some_write (is_reward file (length us))) before e

        rs : List Row
        rs = rows_from 0 splits

        fst : ℕ
        fst = first file us ws w autos before after e edges (λ n. n) (length (targets file)) (λ n l. refl)

        one_way : (b : Bool) (n : ℕ) → length (only_if b n) + (if not b then 1 else 0) ≡ 1
        one_way true n = refl
        one_way false n = refl

        by_action : (o : Option Named) → e.action ≡ o →
            length (served_under (λ n. n) rs (length us) fst a (option_map (λ n. n.name) o)) + (if is_none o && not (rewards file p) then 1 else 0) ≡ action_count splits (length us) (option_map (λ n. n.name) o)
        by_action None h = one_way (rewards file p) (fst + a.rank)
        by_action (Some n) h =
            (let f : length (served_under (λ n. n) rs (length us) fst a (Some n.name)) + 0 ≡ length (served_under (λ n. n) rs (length us) fst a (Some n.name)) = omega arith in f)
            ∙ n_rows (calls (length us) n.name) (names_split (length us) n.name) (numbers_by (λ n. n) (length us) a) (weight (length us)) (λ s y. refl) (n_numbers (λ n. n) (length us) a) 0 splits

    each_edge : (n : ℕ) (before after : List Edge) → n ≡ length before → edges_of x ≡ before ++ after → (f : Edge → ℕ → ℕ) →
        sum_by (λ p. f p.edge (served file p)) (placed_from x n after) ≡ sum_by (λ a. f a.edge (edge_count splits (length us) a)) (ranked_from (some_write (is_reward file (length us))) before after)
    each_edge n before [] is edges f = refl
    each_edge n before (e ∷ after) is edges f =
        sum_by-cons (λ p. f p.edge (served file p)) (record { element = x; number = n; edge = e }) (placed_from x (n + 1) after)
        ∙ ap₂ (λ m k. m + k)
        (ap (λ (m : ℕ). f e (served file (record { element = x; number = m; edge = e }))) is ∙ ap (f e) (served_is before after e edges))
        (each_edge (n + 1) (before ++ e ∷ []) after (let l = length-append before (e ∷ []) in omega (arith, is, l)) (edges ∙ sym (append_assoc before (e ∷ []) after)) f)
        ∙ sym (sum_by-cons (λ a. f a.edge (edge_count splits (length us) a)) (ranked (some_write (is_reward file (length us))) before e) (ranked_from (some_write (is_reward file (length us))) (before ++ e ∷ []) after))

    blocked_is : length (filter (is_blocked file x) (targets file)) ≡ sum_by split_count (filter (blocks_split (length us) (table_in file x)) splits)
    blocked_is =
        sym (count_places (is_blocked file x) 0 (targets file))
        ∙ ap length (blocked_all file x (here file us ws w autos))
        ∙ n_rows (blocks (length us) (table_in file x)) (blocks_split (length us) (table_in file x)) all_numbers split_count (λ s y. refl) n_all 0 splits

  -- ---- all elements
  abbrev blocked_count : Element → ℕ
  blocked_count y = length (filter (is_blocked file y) (targets file))

  commands_are : (us ws : List Automaton) → jani.elements file ≡ us ++ ws →
      sum_by (λ y. sum_by (served file) (placed_edges y)) (numbered_from (length us) ws) + sum_by blocked_count (numbered_from (length us) ws)
      ≡ commands_from splits (length us) (map (table_in file) (numbered_from (length us) ws))
  commands_are us [] autos = refl
  commands_are us (w ∷ ws) autos =
      let y : Element = record { number = length us; automaton = w } in
      let rest : List Element = numbered_from (length us + 1) ws in
      let a = sum_by-cons (λ y. sum_by (served file) (placed_edges y)) y rest in
      let b = sum_by-cons blocked_count y rest in
      let c = each_edge us ws w autos 0 [] (edges_of y) refl refl (λ e n. n) in
      let d = blocked_is us ws w autos in
      let more : length (us ++ w ∷ []) ≡ length us + 1 = (let l = length-append us (w ∷ []) in omega (arith, l)) in
      let ih : sum_by (λ y. sum_by (served file) (placed_edges y)) rest + sum_by blocked_count rest ≡ commands_from splits (length us + 1) (map (table_in file) rest) =
      subst (λ k. sum_by (λ y. sum_by (served file) (placed_edges y)) (numbered_from k ws) + sum_by blocked_count (numbered_from k ws) ≡ commands_from splits k (map (table_in file) (numbered_from k ws))) more
      (commands_are (us ++ w ∷ []) ws (autos ∙ sym (append_assoc us (w ∷ []) ws))) in
      omega (arith, a, b, c, d, ih)

  nodes_are : (us ws : List Automaton) → jani.elements file ≡ us ++ ws →
      sum_by (λ y. sum_by (λ p. edge_nodes p.edge * served file p) (placed_edges y)) (numbered_from (length us) ws)
      ≡ nodes_from splits (length us) (map (table_in file) (numbered_from (length us) ws))
  nodes_are us [] autos = refl
  nodes_are us (w ∷ ws) autos =
      let y : Element = record { number = length us; automaton = w } in
      let rest : List Element = numbered_from (length us + 1) ws in
      let more : length (us ++ w ∷ []) ≡ length us + 1 = (let l = length-append us (w ∷ []) in omega (arith, l)) in
      sum_by-cons (λ y. sum_by (λ p. edge_nodes p.edge * served file p) (placed_edges y)) y rest
      ∙ ap₂ (λ m n. m + n) (each_edge us ws w autos 0 [] (edges_of y) refl refl (λ e n. edge_nodes e * n))
      (subst (λ k. sum_by (λ y. sum_by (λ p. edge_nodes p.edge * served file p) (placed_edges y)) (numbered_from k ws) ≡ nodes_from splits k (map (table_in file) (numbered_from k ws))) more
      (nodes_are (us ++ w ∷ []) ws (autos ∙ sym (append_assoc us (w ∷ []) ws))))

  pub result_commands_are : result_commands file ≡ commands_from splits 0 (map (table_in file) (elements file))
  result_commands_are =
      ap (λ n. n + sum_by blocked_count (elements file)) (sum_by-flat_map (served file) placed_edges (elements file)) ∙ commands_are [] (jani.elements file) refl

  pub result_nodes_are : result_nodes file ≡ nodes_from splits 0 (map (table_in file) (elements file))
  result_nodes_are = sum_by-flat_map (λ p. edge_nodes p.edge * served file p) placed_edges (elements file) ∙ nodes_are [] (jani.elements file) refl
