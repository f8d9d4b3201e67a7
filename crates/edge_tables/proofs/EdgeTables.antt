-- What is known of the edges of an element, one edge more, and what it says of the vectors.
use Rattle.std.specs.Prelude.{◌≡◌, ℕ, suc, ◌+◌, ◌<◌, List, [], ◌∷◌, ◌++◌, map, length, take, get_or, Bool, true, false, not, ◌&&◌, ◌||◌, cond, Option, Some, None, if◌then◌else◌}
use Rattle.std.specs.List.{filter, find, list_any}
use Rattle.std.proofs.Common.{refl, sym, ap, ap₂, ◌∙◌, append_assoc, append-nil}
use Rattle.std.proofs.Math.Path.{fun_ext}
use Rattle.std.proofs.lemmas.List.{map-append}
use Rattle.gathering.proofs.Loops.{taken}
use Rattle.std.proofs.lemmas.List.Folds.{list_any-append}
use Rattle.basics.specs.Members.{any_never}
use Rattle.process_core.specs.Ready.{Name}
use Rattle.jani_tree.specs.Syntax.{Edge, Vector, File, Automaton}
use Rattle.process_core.specs.Instance.{only_if}
use Rattle.prism_translation.specs.Elements.{Element, edges_of, Placed, placed_edges, action_of, some_write, is_reward, rewards}
use Rattle.prism_translation.specs.Targets.{part_of, is_named, names, edges_named}
use Rattle.choice_laws.proofs.Walks.{filter-filter, any-filter}
use Rattle.prism_translation.proofs.Numbered.{placed_from, numbered_from}
use Rattle.edge_tables.specs.Tables.{places_of, has_some, Ranked, EdgeTable, has_action, rewarding_numbers, is_plain, ranked, ranked_from, table_of, table_in, with_edge, makers_at, plain_at, split_by, split_from}
use Rattle.edge_tables.proofs.Numbered.{places_from, places_more}

-- ---- one edge more
module _ (q : Edge → Bool) where
  pub ranked-append : (before es : List Edge) (e : Edge) → ranked_from q before (es ++ e ∷ []) ≡ ranked_from q before es ++ ranked q (before ++ es) e ∷ []
  ranked-append before [] e = ap (λ l. ranked q l e ∷ []) (sym (append-nil before))
  ranked-append before (d ∷ es) e =
      ap (λ l. ranked q before d ∷ l) (ranked-append (before ++ d ∷ []) es e ∙ ap (λ l. ranked_from q (before ++ d ∷ []) es ++ ranked q l e ∷ []) (append_assoc before (d ∷ []) es))

  pub n_ranked : (before es : List Edge) → length (ranked_from q before es) ≡ length es
  n_ranked before [] = refl
  n_ranked before (e ∷ es) = ap suc (n_ranked (before ++ e ∷ []) es)

  plain_more : (es : List Edge) (e : Edge) (x : Name) → is_plain q (es ++ e ∷ []) x ≡ (is_plain q es x || (has_action (Some x) e && not (q e)))
  plain_more es e x =
      list_any-append (λ d. has_action (Some x) d && not (q d)) es (e ∷ []) ∙ ap (λ b. is_plain q es x || b) (or_false (has_action (Some x) e && not (q e)))
    where
      or_false : (b : Bool) → (b || false) ≡ b
      or_false true = refl
      or_false false = refl

  pub table_more : (es : List Edge) (e : Edge) → table_of q (es ++ e ∷ []) ≡ with_edge (table_of q es) e (q e)
  table_more es e =
      ap₂ (λ (f : List Ranked) (g : (Option Name → List ℕ) × (Name → Bool)). record { edges = f; rewarding = g.0; plain = g.1 }) (ranked-append [] es e)
      (ap₂ (λ (f : Option Name → List ℕ) (g : Name → Bool). (f, g))
      (fun_ext (λ a. places_more (λ d. has_action a d && q d) es e ∙ ap (λ n. rewarding_numbers q a es ++ only_if (has_action a e && q e) n) (sym (n_ranked [] es))))
      (fun_ext (λ x. plain_more es e x)))

  -- as a loop goes on
  pub table_step : {A : Type 0} (s : A → Edge) (xs : List A) (i : ℕ) (x : A) (old new : EdgeTable) (b : Bool) → i < length xs → x ≡ get_or xs i x →
      old ≡ table_of q (map s (take i xs)) → new ≡ with_edge old (s x) b → b ≡ q (s x) → new ≡ table_of q (map s (take (i + 1) xs))
  table_step s xs i x old new b h e so_far added is =
      added
      ∙ ap₂ (λ (o : EdgeTable) c. with_edge o (s x) c) so_far is
      ∙ sym (table_more (map s (take i xs)) (s x))
      ∙ ap (table_of q) (sym (map-append s (take i xs) (x ∷ [])) ∙ ap (map s) (sym (taken xs i x h e)))

-- ---- the edges that a vector names at an element
pub numbers_kept : (el : Element) (h : Placed → Bool) (g : Edge → Bool) (i : ℕ) (es : List Edge) →
    ((j : ℕ) (e : Edge) → h (record { element = el; number = j; edge = e }) ≡ g e) → map (λ p. p.number) (filter h (placed_from el i es)) ≡ places_from g i es
numbers_kept el h g i [] same = refl
numbers_kept el h g i (e ∷ es) same =
    by_test (h (record { element = el; number = i; edge = e })) (numbers_kept el h g (i + 1) es same) ∙ ap (λ b. only_if b i ++ places_from g (i + 1) es) (same i e)
  where
    by_test : (b : Bool) → map (λ p. p.number) (filter h (placed_from el (i + 1) es)) ≡ places_from g (i + 1) es →
        map (λ p. p.number) (cond b (record { element = el; number = i; edge = e } ∷ filter h (placed_from el (i + 1) es)) (filter h (placed_from el (i + 1) es))) ≡ only_if b i ++ places_from g (i + 1) es
    by_test true ih = ap (λ l. i ∷ l) ih
    by_test false ih = ih

pub any_kept : (el : Element) (h : Placed → Bool) (g : Edge → Bool) (i : ℕ) (es : List Edge) →
    ((j : ℕ) (e : Edge) → h (record { element = el; number = j; edge = e }) ≡ g e) → list_any h (placed_from el i es) ≡ list_any g es
any_kept el h g i [] same = refl
any_kept el h g i (e ∷ es) same = ap₂ (λ a b. a || b) (same i e) (any_kept el h g (i + 1) es same)

no_numbers : {X : Type 0} (i : ℕ) (xs : List X) → places_from (λ (x : X). false) i xs ≡ []
no_numbers i [] = refl
no_numbers i (x ∷ xs) = no_numbers (i + 1) xs

module _ (file : File) (v : Vector) (el : Element) where
  abbrev q : Edge → Bool
  q = some_write (is_reward file el.number)

  pub makers_are : makers_at (table_in file el) (part_of v el.number) ≡ map (λ p. p.number) (filter (rewards file) (edges_named v el))
  makers_are =
      by_part (part_of v el.number)
      ∙ sym (numbers_kept el (λ p. names v p && rewards file p) (λ e. is_named (part_of v el.number) (action_of e) && q e) 0 (edges_of el) (λ j e. refl))
      ∙ ap (map (λ p. p.number)) (sym (filter-filter (rewards file) (names v) (placed_edges el)))
    where
      by_part : (a : Option Name) → makers_at (table_in file el) a ≡ places_of (λ e. is_named a (action_of e) && q e) (edges_of el)
      by_part None = sym (no_numbers 0 (edges_of el))
      by_part (Some x) = refl

  pub plain_is : plain_at (table_in file el) (part_of v el.number) ≡ list_any (λ p. not (rewards file p)) (edges_named v el)
  plain_is =
      by_part (part_of v el.number)
      ∙ sym (any_kept el (λ p. names v p && not (rewards file p)) (λ e. is_named (part_of v el.number) (action_of e) && not (q e)) 0 (edges_of el) (λ j e. refl))
      ∙ sym (any-filter (λ p. not (rewards file p)) (names v) (placed_edges el))
    where
      by_part : (a : Option Name) → plain_at (table_in file el) a ≡ list_any (λ e. is_named a (action_of e) && not (q e)) (edges_of el)
      by_part None = sym (any_never (edges_of el))
      by_part (Some x) = refl

pub some_map : {X Y : Type 0} (f : X → Y) (p : X → Bool) (xs : List X) → has_some (map f (filter p xs)) ≡ list_any p xs
some_map f p [] = refl
some_map f p (x ∷ xs) = by_test (p x) (some_map f p xs)
  where
    by_test : (b : Bool) → has_some (map f (filter p xs)) ≡ list_any p xs → has_some (map f (cond b (x ∷ filter p xs) (filter p xs))) ≡ (b || list_any p xs)
    by_test true e = refl
    by_test false e = e

-- ---- how a vector is split
pub split_is : (file : File) (v : Vector) (k : ℕ) (autos : List Automaton) →
    split_from v k (map (table_in file) (numbered_from k autos)) ≡ split_by file v (find (λ el. list_any (rewards file) (edges_named v el)) (numbered_from k autos))
split_is file v k [] = refl
split_is file v k (a ∷ autos) =
    ap₂ (λ (m : List ℕ) (b : Bool). if has_some m then record { vector = v; writer = Some k; makers = m; plain = b } else split_from v (k + 1) (map (table_in file) (numbered_from (k + 1) autos)))
    (makers_are file v el) (plain_is file v el)
    ∙ ap (λ (b : Bool). if b then split_by file v (Some el) else split_from v (k + 1) (map (table_in file) (numbered_from (k + 1) autos))) (some_map (λ p. p.number) (rewards file) (edges_named v el))
    ∙ by_test (list_any (rewards file) (edges_named v el)) (split_is file v (k + 1) autos)
  where
    el : Element
    el = record { number = k; automaton = a }

    pays : Element → Bool
    pays e = list_any (rewards file) (edges_named v e)

    by_test : (b : Bool) → split_from v (k + 1) (map (table_in file) (numbered_from (k + 1) autos)) ≡ split_by file v (find pays (numbered_from (k + 1) autos)) →
        (if b then split_by file v (Some el) else split_from v (k + 1) (map (table_in file) (numbered_from (k + 1) autos))) ≡ split_by file v (cond b (Some el) (find pays (numbered_from (k + 1) autos)))
    by_test true e = refl
    by_test false e = e
