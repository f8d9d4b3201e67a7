-- Which targets of one vector an edge serves.
use Rattle.std.specs.Prelude.{◌≡◌, ℕ, ◌+◌, ◌-◌, ◌^◌, ◌≤◌, List, [], ◌∷◌, ◌++◌, map, length, Bool, true, false, not, ◌&&◌, ◌||◌, cond, Option, Some, None, if◌then◌else◌, nat_eq}
use Rattle.std.specs.List.{filter, list_any, range_with_len, All}
use Rattle.std.proofs.Common.{refl, sym, ap, ap₂, ◌∙◌, subst, arith, eq-eqb, eqb-true, length-append}
use Rattle.std.proofs.lemmas.Bool.{ne_eqb}
use Rattle.std.proofs.lemmas.List.{length-map}
use Rattle.std.proofs.lemmas.List.Elements.{All-weaker, All-filter, filter-append}
use Rattle.std.proofs.lemmas.Slice.Eq.{bytes_eq-Decides}
use Rattle.std.proofs.Math.Bool.{or-false, and-false}
use Rattle.basics.specs.Members.{none_passes, all_get}
use Rattle.basics.specs.Numbers.{nat_eq-self}
use Rattle.op_trees.specs.Tree.{capped}
use Rattle.process_core.specs.Ready.{Name, same_label}
use Rattle.jani_tree.specs.Syntax.{Edge, Vector, File}
use Rattle.process_core.specs.Instance.{numbered, only_if}
use Rattle.prism_translation.specs.Elements.{Element, elements, edges_of, Placed, placed_edges, action_of, some_write, is_reward, rewards}
use Rattle.prism_translation.specs.Targets.{part_of, is_named, names, edges_named, reward_writer, Target, targets_by, vector_targets, serves}
use Rattle.prism_translation.proofs.Served.{made, plain, made_targets, ServesAll, other_serves}
use Rattle.choice_laws.proofs.Walks.{filter-filter, has_any, any-filter, found_has}
use Rattle.jani_meaning.proofs.Columns.{numbered-append}
use Rattle.prism_translation.proofs.Numbered.{placed_from, at_element}
use Rattle.edge_tables.specs.Tables.{places_of, has_action, Ranked, ranked, split_by, split_in, split_count, row_at, numbers_by, all_numbers}
use Rattle.edge_tables.proofs.Numbered.{numbered-map, places_from, places_agree, places_if}
use Rattle.edge_tables.proofs.EdgeTables.{numbers_kept}
use Rattle.edge_tables.proofs.Members.{not_found, IsElement, all_elements, same_element, at_split, own_place, is_numbered}

-- ---- tests
pub within : (n : ℕ) → n ≤ 2 ^ 64 - 1 → capped n ≡ n
within n l = omega (arith, l)

pub ended : (s n : ℕ) → s + n - s ≡ n
ended s n = omega arith

-- an action that a vector names is the edge's
same_part : (a b : Option Name) → is_named a b ≡ true → (c : Option Name) → is_named a c ≡ same_label b c
same_part None b h c = absurd cc
same_part (Some x) None h c = absurd cc
same_part (Some x) (Some y) h c = ap (λ z. same_label (Some z) c) ((bytes_eq-Decides x y).0 h)

-- how many targets a vector has
pub n_targets : (file : File) (v : Vector) (o : Option Element) → length (targets_by file v o) ≡ split_count (split_by file v o)
n_targets file v None = omega arith
n_targets file v (Some el) =
    length-append (made_targets file v el) (only_if any (plain file v (Some el.number)))
    ∙ ap₂ (λ a b. a + b) (length-map kept (made file v el) ∙ sym (length-map kept (λ p. p.number))) (one any)
  where
    kept : List Placed
    kept = filter (rewards file) (edges_named v el)

    any : Bool
    any = list_any (λ p. not (rewards file p)) (edges_named v el)

    one : (b : Bool) → length (only_if b (plain file v (Some el.number))) ≡ (if b then 1 else 0)
    one true = refl
    one false = refl

pub count_targets : (file : File) (v : Vector) → length (vector_targets file v) ≡ split_count (split_in file v)
count_targets file v = n_targets file v (reward_writer file v)

module _ (file : File) (el : Element) (here : IsElement file el) (before after : List Edge) (e : Edge) (edges : edges_of el ≡ before ++ e ∷ after) where
  abbrev pub p : Placed
  p = record { element = el; number = length before; edge = e }

  abbrev pub q : Edge → Bool
  q = some_write (is_reward file el.number)

  abbrev pub a : Ranked
  a = ranked q before e

  -- what holds of all edges of the element holds of this one
  pub at_edge : (P : Placed → Type 0) → All P (placed_edges el) → P p
  at_edge P h = at_split P el (length before) 0 before after e (omega arith) (subst (λ (es : List Edge). All P (placed_from el 0 es)) edges h)

  -- where it stands among edges of the element that pass a test
  pub place_among : (h : Placed → Bool) (s : ℕ) → numbered (λ j r. only_if (is_numbered (length before) r) j) s (filter h (placed_edges el)) ≡ only_if (h p) (s + length (filter h (placed_from el 0 before)))
  place_among h s =
      ap (λ (es : List Edge). numbered (λ j r. only_if (is_numbered (length before) r) j) s (filter h (placed_from el 0 es))) edges
      ∙ own_place el h (length before) 0 s before after e (omega arith)

  placed-append : (i : ℕ) (us vs : List Edge) → placed_from el i (us ++ vs) ≡ placed_from el i us ++ placed_from el (i + length us) vs
  placed-append i us vs = numbered-append (λ j d. record { element = el; number = j; edge = d } ∷ []) i us vs

  -- no more come before it than there are
  pub before_all : (h : Placed → Bool) → length (filter h (placed_from el 0 before)) ≤ length (filter h (placed_edges el))
  before_all h =
      let all : length (filter h (placed_edges el)) ≡ length (filter h (placed_from el 0 before)) + length (filter h (placed_from el (0 + length before) (e ∷ after))) =
      ap (λ (es : List Edge). length (filter h (placed_from el 0 es))) edges
      ∙ ap (λ l. length (filter h l)) (placed-append 0 before (e ∷ after))
      ∙ ap length (filter-append h (placed_from el 0 before) (placed_from el (0 + length before) (e ∷ after)))
      ∙ length-append (filter h (placed_from el 0 before)) (filter h (placed_from el (0 + length before) (e ∷ after))) in
      omega (arith, all)

  -- how many edges with its action that pass a test come before it
  pub rank_is : (h : Placed → Bool) (g : Edge → Bool) → ((j : ℕ) (d : Edge) → h (record { element = el; number = j; edge = d }) ≡ g d) →
      length (filter h (placed_from el 0 before)) ≡ length (places_of g before)
  rank_is h g same = sym (length-map (filter h (placed_from el 0 before)) (λ r. r.number)) ∙ ap length (numbers_kept el h g 0 before same)

  -- where numbers up to the last one are not changed
  module _ (v : Vector) (cap : ℕ → ℕ) (total : ℕ) (keeps : (n : ℕ) → n ≤ total → cap n ≡ n) where
    abbrev serving : Target → Bool
    serving t = serves file t p

    abbrev kept : Placed → Bool
    kept r = names v r && rewards file r

    named_rank : names v p ≡ true → length (filter kept (placed_from el 0 before)) ≡ a.rank
    named_rank h =
        rank_is kept (λ d. has_action (action_of e) d && q d)
        (λ j d. ap (λ b. b && q d) (same_part (part_of v el.number) (action_of e) h (action_of d)))

    -- ---- the element is the writer
    own_made : (r : Placed) → r.element ≡ el → serving (made file v el r) ≡ is_numbered (length before) r
    own_made r at =
        ap₂ (λ b c. (b && nat_eq (length before) r.number) || (names v p && not c)) (ap (λ (x : Element). nat_eq el.number x.number) at ∙ nat_eq-self el.number) (nat_eq-self el.number)
        ∙ ap (λ b. nat_eq (length before) r.number || b) (and-false (names v p))
        ∙ or-false (nat_eq (length before) r.number)

    own_plain : serving (plain file v (Some el.number)) ≡ (names v p && not (rewards file p))
    own_plain = ap (λ b. names v p && (not (rewards file p) || not b)) (nat_eq-self el.number) ∙ ap (λ b. names v p && b) (or-false (not (rewards file p)))

    combined : (n r any : Bool) (s rank m : ℕ) → ((n && not r) ≡ true → any ≡ true) →
        only_if (n && r) (s + rank) ++ cond any (only_if (n && not r) (s + m) ++ []) [] ≡ cond n ((s + (if r then rank else m)) ∷ []) []
    combined true true true s rank m h = refl
    combined true true false s rank m h = refl
    combined true false true s rank m h = refl
    combined true false false s rank m h = absurd (let f = h refl in cc)
    combined false r true s rank m h = refl
    combined false r false s rank m h = refl

    plain_place : (s : ℕ) (any : Bool) → places_from serving s (only_if any (plain file v (Some el.number))) ≡ cond any (only_if (names v p && not (rewards file p)) s ++ []) []
    plain_place s true = ap (λ b. only_if b s ++ []) own_plain
    plain_place s false = refl

    capped_if : (n r : Bool) (s rank mine m : ℕ) → (n ≡ true → rank ≡ mine) → s + rank ≤ total →
        cond n ((s + (if r then rank else m)) ∷ []) [] ≡ cond n ((if r then cap (s + mine) else s + m) ∷ []) []
    capped_if true true s rank mine m e h = ap (λ j. j ∷ []) (sym (keeps (s + rank) h) ∙ ap (λ j. cap (s + j)) (e refl))
    capped_if true false s rank mine m e h = refl
    capped_if false r s rank mine m e h = refl

    by_owner : (s : ℕ) → s + length (targets_by file v (Some el)) ≤ total →
        places_from serving s (targets_by file v (Some el)) ≡ cond (names v p) (numbers_by cap el.number a (row_at s (split_by file v (Some el)))) []
    by_owner s fits =
        numbered-append (λ j t. only_if (serving t) j) s (made_targets file v el) (only_if any (plain file v (Some el.number)))
        ∙ ap₂ (λ x y. x ++ y)
        (numbered-map (λ j t. only_if (serving t) j) (made file v el) s G
        ∙ places_agree (λ r. serving (made file v el r)) (is_numbered (length before)) s G
        (subst (λ l. All (λ r. serving (made file v el r) ≡ is_numbered (length before) r) l) (sym kept_is)
        (All-filter kept (λ r. serving (made file v el r) ≡ is_numbered (length before) r) (placed_edges el)
        (All-weaker (λ r. r.element ≡ el) (λ r. serving (made file v el r) ≡ is_numbered (length before) r) own_made (placed_edges el) (at_element el 0 (edges_of el)))))
        ∙ ap (places_from (is_numbered (length before)) s) kept_is
        ∙ place_among kept s)
        (plain_place (s + length (made_targets file v el)) any ∙ ap (λ m. cond any (only_if (names v p && not (rewards file p)) (s + m) ++ []) []) made_count)
        ∙ combined (names v p) (rewards file p) any s (length (filter kept (placed_from el 0 before))) makers some
        ∙ capped_if (names v p) (rewards file p) s (length (filter kept (placed_from el 0 before))) a.rank makers named_rank (omega (arith, fits, counted, earlier))
        ∙ ap (λ b. cond (names v p) (if not b then all_numbers (row_at s (split_by file v (Some el))) else (if rewards file p then cap (s + a.rank) else s + makers) ∷ []) []) (sym (nat_eq-self el.number))
      where
        G : List Placed
        G = filter (rewards file) (edges_named v el)

        kept_is : filter (rewards file) (edges_named v el) ≡ filter kept (placed_edges el)
        kept_is = filter-filter (rewards file) (names v) (placed_edges el)

        any : Bool
        any = list_any (λ r. not (rewards file r)) (edges_named v el)

        makers : ℕ
        makers = length (map (λ (r : Placed). r.number) (filter (rewards file) (edges_named v el)))

        made_count : length (made_targets file v el) ≡ makers
        made_count = length-map (filter (rewards file) (edges_named v el)) (made file v el) ∙ sym (length-map (filter (rewards file) (edges_named v el)) (λ r. r.number))

        earlier : length (filter kept (placed_from el 0 before)) ≤ makers
        earlier = let m = length-map (filter (rewards file) (edges_named v el)) (λ (r : Placed). r.number) in let n = ap length kept_is in let k = before_all kept in omega (arith, m, n, k)

        counted : makers ≤ length (targets_by file v (Some el))
        counted = let n = n_targets file v (Some el) in omega (arith, n)

        some : (names v p && not (rewards file p)) ≡ true → any ≡ true
        some h = any-filter (λ r. not (rewards file r)) (names v) (placed_edges el) ∙ at_edge (λ r. (names v r && not (rewards file r)) ≡ true → list_any (λ r. names v r && not (rewards file r)) (placed_edges el) ≡ true) (has_any (λ r. names v r && not (rewards file r)) (placed_edges el)) h

    -- ---- another element is
    by_another : (w : Element) → (el.number ≡ w.number → ⊥) → (s : ℕ) →
        places_from serving s (targets_by file v (Some w)) ≡ cond (names v p) (numbers_by cap el.number a (row_at s (split_by file v (Some w)))) []
    by_another w other s =
        places_if serving (names v p) s (targets_by file v (Some w))
        (All-weaker (ServesAll file v el) (λ t. serving t ≡ names v p) (λ t h. at_edge (λ r. serves file t r ≡ names v r) h) (targets_by file v (Some w)) (other_serves file v el w other))
        ∙ ap (λ n. cond (names v p) (range_with_len s n) []) (n_targets file v (Some w) ∙ sym (ended s (split_count (split_by file v (Some w)))))
        ∙ ap (λ b. cond (names v p) (if not b then all_numbers (row_at s (split_by file v (Some w))) else (if rewards file p then cap (s + a.rank) else s + length (split_by file v (Some w)).makers) ∷ []) []) (sym (ne_eqb el.number w.number other))

    -- ---- no element is
    by_none : (s : ℕ) → reward_writer file v ≡ None → s + 1 ≤ total →
        places_from serving s (targets_by file v None) ≡ cond (names v p) (numbers_by cap el.number a (row_at s (split_by file v None))) []
    by_none s none fits = by_test (names v p) (rewards file p) pays_not
      where
        pays_not : (names v p && rewards file p) ≡ false
        pays_not =
            at_edge (λ r. (names v r && rewards file r) ≡ false)
            (none_passes (λ r. names v r && rewards file r) (placed_edges el)
            (sym (any-filter (rewards file) (names v) (placed_edges el))
            ∙ all_get (λ w. list_any (rewards file) (edges_named v w) ≡ false) (elements file) el.number el (not_found (λ w. list_any (rewards file) (edges_named v w)) (elements file) none) here))

        by_test : (n r : Bool) → (n && r) ≡ false → only_if (n && (not r || false)) s ++ [] ≡ cond n ((if r then cap (s + a.rank) else s + 0) ∷ []) []
        by_test true true h = absurd cc
        by_test true false h = ap (λ j. j ∷ []) (let f : s ≡ s + 0 = omega arith in f)
        by_test false r h = refl

    -- ---- whoever is
    pub served_of : (s : ℕ) → s + length (vector_targets file v) ≤ total →
        places_from serving s (vector_targets file v) ≡ cond (names v p) (numbers_by cap el.number a (row_at s (split_in file v))) []
    served_of s fits = by_writer (reward_writer file v) refl fits
      where
        by_writer : (o : Option Element) → reward_writer file v ≡ o → s + length (targets_by file v o) ≤ total →
            places_from serving s (targets_by file v o) ≡ cond (names v p) (numbers_by cap el.number a (row_at s (split_by file v o))) []
        by_writer None is f = by_none s is f
        by_writer (Some w) is f = by_number (nat_eq el.number w.number) refl
          where
            there : IsElement file w
            there = found_has (IsElement file) (λ x. list_any (rewards file) (edges_named v x)) w (elements file) (all_elements file) is

            by_number : (b : Bool) → nat_eq el.number w.number ≡ b →
                places_from serving s (targets_by file v (Some w)) ≡ cond (names v p) (numbers_by cap el.number a (row_at s (split_by file v (Some w)))) []
            by_number true n =
                subst (λ (x : Element). places_from serving s (targets_by file v (Some x)) ≡ cond (names v p) (numbers_by cap el.number a (row_at s (split_by file v (Some x)))) [])
                (sym (same_element file el w here there (eqb-true el.number w.number n)))
                (by_owner s (subst (λ (x : Element). s + length (targets_by file v (Some x)) ≤ total) (same_element file el w here there (eqb-true el.number w.number n)) f))
            by_number false n = by_another w (λ k. let c : nat_eq el.number w.number ≡ true = eq-eqb el.number w.number k in absurd cc) s
