-- Which targets an element blocks.
use Rattle.std.specs.Prelude.{◌≡◌, ℕ, ◌+◌, List, [], ◌∷◌, ◌++◌, map, length, Bool, true, false, not, ◌&&◌, ◌||◌, cond, Option, Some, None, is_some, nat_eq, get_or}
use Rattle.std.specs.List.{filter, flat_map, list_any, range_with_len, All}
use Rattle.std.proofs.Common.{refl, sym, ap, ap₂, ◌∙◌, subst, eq-eqb, eqb-true, append-nil}
use Rattle.std.proofs.lemmas.List.Elements.{All-nil, All-cons, All-weaker, All-map, All-filter, All-append, filter_passes}
use Rattle.std.proofs.Math.Bool.{or-false}
use Rattle.basics.specs.Members.{none_passes, all_get}
use Rattle.basics.specs.Numbers.{nat_eq-self}
use Rattle.process_core.specs.Ready.{Name}
use Rattle.jani_tree.specs.Syntax.{Edge, Vector, File}
use Rattle.jani_meaning.proofs.Columns.{numbered-append}
use Rattle.process_core.specs.Instance.{only_if}
use Rattle.prism_translation.specs.Elements.{Element, elements, edges_of, Placed, placed_edges, action_of, some_write, is_reward, rewards}
use Rattle.prism_translation.specs.Targets.{part_of, is_named, names, edges_named, reward_writer, Target, targets_by, vector_targets, silent_targets, targets, serves, has_part, is_blocked}
use Rattle.prism_translation.proofs.Served.{made, plain, made_targets, ServesAll, other_serves}
use Rattle.prism_translation.proofs.Numbered.{at_element}
use Rattle.choice_laws.proofs.Walks.{any_agree_in, has_any, any-filter, found_has}
use Rattle.edge_tables.specs.Tables.{places_of, has_action, is_plain, table_in, split_in, split_count, row_at, rows_from, all_numbers, has_edge, blocks}
use Rattle.edge_tables.proofs.Numbered.{places_from, places_if, no_places, any_place}
use Rattle.edge_tables.proofs.EdgeTables.{any_kept}
use Rattle.edge_tables.proofs.Members.{not_found, IsElement, all_elements, same_element}
use Rattle.edge_tables.proofs.Serves.{count_targets, ended}
use Rattle.edge_tables.proofs.Whole.{flat_kept, vector_is, earns_alone, silent_of}

-- ---- some edge is named
-- where a member passes one test and the other, both are passed by some
both_some : (a b : Bool) → a ≡ true → b ≡ true → a ≡ b
both_some a b h k = h ∙ sym k

module _ (file : File) (x : Element) (there : IsElement file x) (v : Vector) where
  abbrev some_serves : Target → Bool
  some_serves t = list_any (serves file t) (placed_edges x)

  abbrev some_named : Bool
  some_named = list_any (names v) (placed_edges x)

  abbrev Agrees : Target → Type 0
  Agrees t = some_serves t ≡ some_named

  by_another : (w : Element) → (x.number ≡ w.number → ⊥) → All Agrees (targets_by file v (Some w))
  by_another w other =
      All-weaker (ServesAll file v x) Agrees (λ t h. any_agree_in (serves file t) (names v) (placed_edges x) h) (targets_by file v (Some w)) (other_serves file v x w other)

  -- some edge serves what is made for it
  own_made : All (λ r. Agrees (made file v x r)) (filter (rewards file) (edges_named v x))
  own_made =
      All-filter (rewards file) (λ r. Agrees (made file v x r)) (edges_named v x)
      (λ k d l.
      let r = get_or (edges_named v x) k d in
      let at : r.element ≡ x = All-filter (names v) (λ r. r.element ≡ x) (placed_edges x) (at_element x 0 (edges_of x)) k d l in
      let named : names v r ≡ true = filter_passes (names v) (placed_edges x) k d l in
      both_some (some_serves (made file v x r)) some_named
      (All-filter (names v) (λ r. serves file (made file v x r) r ≡ true → some_serves (made file v x r) ≡ true) (placed_edges x)
      (All-weaker (λ r. (t : Target) → serves file t r ≡ true → some_serves t ≡ true) (λ r. serves file (made file v x r) r ≡ true → some_serves (made file v x r) ≡ true) (λ r h. h (made file v x r))
      (placed_edges x) (serving_some (placed_edges x))) k d l
      (ap₂ (λ a b. (a && b) || (names v r && (false && not (rewards file r) || not (nat_eq r.element.number x.number)))) (nat_eq-self r.element.number) (nat_eq-self r.number)))
      (All-filter (names v) (λ r. names v r ≡ true → some_named ≡ true) (placed_edges x) (has_any (names v) (placed_edges x)) k d l named))
    where
      serving_some : (ps : List Placed) → All (λ r. (t : Target) → serves file t r ≡ true → list_any (serves file t) ps ≡ true) ps
      serving_some ps k d l t = has_any (serves file t) ps k d l

  own_plain : list_any (λ r. not (rewards file r)) (edges_named v x) ≡ true → Agrees (plain file v (Some x.number))
  own_plain h =
      both_some (some_serves (plain file v (Some x.number))) some_named
      (any_agree_in (serves file (plain file v (Some x.number))) (λ r. names v r && not (rewards file r)) (placed_edges x)
      (All-weaker (λ r. r.element ≡ x) (λ r. serves file (plain file v (Some x.number)) r ≡ (names v r && not (rewards file r)))
      (λ r at. ap (λ b. names v r && (not (rewards file r) || not b)) (ap (λ (y : Element). nat_eq y.number x.number) at ∙ nat_eq-self x.number) ∙ ap (λ b. names v r && b) (or-false (not (rewards file r))))
      (placed_edges x) (at_element x 0 (edges_of x)))
      ∙ plain_some)
      (weaker (names v) (λ r. not (rewards file r)) (placed_edges x) plain_some)
    where
      plain_some : list_any (λ r. names v r && not (rewards file r)) (placed_edges x) ≡ true
      plain_some = sym (any-filter (λ r. not (rewards file r)) (names v) (placed_edges x)) ∙ h

      one_more : (a b c d : Bool) → (c ≡ true → d ≡ true) → ((a && b) || c) ≡ true → (a || d) ≡ true
      one_more true b c d h k = refl
      one_more false b c d h k = h k

      weaker : (f g : Placed → Bool) (ps : List Placed) → list_any (λ r. f r && g r) ps ≡ true → list_any f ps ≡ true
      weaker f g [] h = h
      weaker f g (r ∷ ps) h = one_more (f r) (g r) (list_any (λ r. f r && g r) ps) (list_any f ps) (weaker f g ps) h

  by_owner : All Agrees (targets_by file v (Some x))
  by_owner =
      All-append Agrees (made_targets file v x) (only_if (list_any (λ r. not (rewards file r)) (edges_named v x)) (plain file v (Some x.number)))
      (All-map Agrees (made file v x) (filter (rewards file) (edges_named v x)) own_made)
      (if_any (list_any (λ r. not (rewards file r)) (edges_named v x)) refl)
    where
      if_any : (b : Bool) → list_any (λ r. not (rewards file r)) (edges_named v x) ≡ b → All Agrees (only_if b (plain file v (Some x.number)))
      if_any true h = All-cons Agrees (plain file v (Some x.number)) [] (own_plain h) (All-nil Agrees)
      if_any false h = All-nil Agrees

  by_none : reward_writer file v ≡ None → Agrees (plain file v None)
  by_none none =
      any_agree_in (serves file (plain file v None)) (names v) (placed_edges x)
      (λ k d l. let r = get_or (placed_edges x) k d in by_test (names v r) (rewards file r) (pays_not k d l))
    where
      pays_not : All (λ r. (names v r && rewards file r) ≡ false) (placed_edges x)
      pays_not =
          none_passes (λ r. names v r && rewards file r) (placed_edges x)
          (sym (any-filter (rewards file) (names v) (placed_edges x))
          ∙ all_get (λ w. list_any (rewards file) (edges_named v w) ≡ false) (elements file) x.number x (not_found (λ w. list_any (rewards file) (edges_named v w)) (elements file) none) there)

      by_test : (n r : Bool) → (n && r) ≡ false → (n && (not r || false)) ≡ n
      by_test true true h = absurd cc
      by_test true false h = refl
      by_test false r h = refl

  pub some_edge_serves : All Agrees (vector_targets file v)
  some_edge_serves = by_writer (reward_writer file v) refl
    where
      by_writer : (o : Option Element) → reward_writer file v ≡ o → All Agrees (targets_by file v o)
      by_writer None is = All-cons Agrees (plain file v None) [] (by_none is) (All-nil Agrees)
      by_writer (Some w) is = by_number (nat_eq x.number w.number) refl
        where
          found : IsElement file w
          found = found_has (IsElement file) (λ y. list_any (rewards file) (edges_named v y)) w (elements file) (all_elements file) is

          by_number : (b : Bool) → nat_eq x.number w.number ≡ b → All Agrees (targets_by file v (Some w))
          by_number true n = subst (λ (y : Element). All Agrees (targets_by file v (Some y))) (sym (same_element file x w there found (eqb-true x.number w.number n))) by_owner
          by_number false n = by_another w (λ k. let c : nat_eq x.number w.number ≡ true = eq-eqb x.number w.number k in absurd cc)

  -- ---- in the words of what is known of the edges
  edge_there : has_edge (table_in file x) (part_of v x.number) ≡ some_named
  edge_there =
      by_part (part_of v x.number)
      ∙ sym (any_kept x (names v) (λ e. is_named (part_of v x.number) (action_of e)) 0 (edges_of x) (λ j e. refl))
    where
      pays : Edge → Bool
      pays = some_write (is_reward file x.number)

      one_or_other : (a b c d : Bool) → c ≡ (a || b) → (c || d) ≡ (a || (b || d))
      one_or_other true b c d h = ap (λ z. z || d) h
      one_or_other false b c d h = ap (λ z. z || d) h

      split : (f : Edge → Bool) (es : List Edge) → (list_any (λ e. f e && pays e) es || list_any (λ e. f e && not (pays e)) es) ≡ list_any f es
      split f [] = refl
      split f (e ∷ es) = by_test (f e) (pays e) (split f es)
        where
          exchanged : (a b : Bool) → (a || (true || b)) ≡ true
          exchanged true b = refl
          exchanged false b = refl

          by_test : (b c : Bool) → (list_any (λ e. f e && pays e) es || list_any (λ e. f e && not (pays e)) es) ≡ list_any f es →
              (((b && c) || list_any (λ e. f e && pays e) es) || ((b && not c) || list_any (λ e. f e && not (pays e)) es)) ≡ (b || list_any f es)
          by_test true true h = refl
          by_test true false h = exchanged (list_any (λ e. f e && pays e) es) (list_any (λ e. f e && not (pays e)) es)
          by_test false c h = h

      no_any : (es : List Edge) → false ≡ list_any (λ e. is_named None (action_of e)) es
      no_any [] = refl
      no_any (e ∷ es) = no_any es

      by_part : (a : Option Name) → has_edge (table_in file x) a ≡ list_any (λ e. is_named a (action_of e)) (edges_of x)
      by_part None = no_any (edges_of x)
      by_part (Some y) =
          ap (λ b. b || is_plain pays (edges_of x) y) (any_place (λ e. has_action (Some y) e && pays e) 0 (edges_of x)) ∙ split (has_action (Some y)) (edges_of x)

  pub blocked_here : (s : ℕ) →
      places_from (is_blocked file x) s (vector_targets file v) ≡ cond (blocks x.number (table_in file x) (row_at s (split_in file v))) (all_numbers (row_at s (split_in file v))) []
  blocked_here s =
      places_if (is_blocked file x) (is_some (part_of v x.number) && not some_named) s (vector_targets file v)
      (λ k d l. ap₂ (λ o b. has_part x.number o && not b) (of_vector (reward_writer file v) k d l) (some_edge_serves k d l))
      ∙ ap₂ (λ b n. cond b (range_with_len s n) [])
      (ap (λ b. is_some (part_of v x.number) && not b) (sym edge_there)
      ∙ ap (λ (u : Vector). is_some (part_of u x.number) && not (has_edge (table_in file x) (part_of u x.number))) (sym (vector_is file v)))
      (count_targets file v ∙ sym (ended s (split_count (split_in file v))))
    where
      each : (P : Target → Type 0) (w : Element) → ((r : Placed) → P (made file v w r)) → (ps : List Placed) → All P (map (made file v w) ps)
      each P w h [] = All-nil P
      each P w h (r ∷ ps) = All-cons P (made file v w r) (map (made file v w) ps) (h r) (each P w h ps)

      if_any : (b : Bool) (o : Option ℕ) → All (λ t. t.vector ≡ Some v) (only_if b (plain file v o))
      if_any true o = All-cons (λ t. t.vector ≡ Some v) (plain file v o) [] refl (All-nil (λ t. t.vector ≡ Some v))
      if_any false o = All-nil (λ t. t.vector ≡ Some v)

      of_vector : (o : Option Element) → All (λ t. t.vector ≡ Some v) (targets_by file v o)
      of_vector None = if_any true None
      of_vector (Some w) =
          All-append (λ t. t.vector ≡ Some v) (made_targets file v w) (only_if (list_any (λ r. not (rewards file r)) (edges_named v w)) (plain file v (Some w.number)))
          (each (λ t. t.vector ≡ Some v) w (λ r. refl) (filter (rewards file) (edges_named v w))) (if_any (list_any (λ r. not (rewards file r)) (edges_named v w)) (Some w.number))

-- ---- of all targets
module _ (file : File) (x : Element) (there : IsElement file x) where
  of_vectors : (s : ℕ) (vs : List Vector) →
      places_from (is_blocked file x) s (flat_map (vector_targets file) vs) ≡ flat_map (λ r. cond (blocks x.number (table_in file x) r) (all_numbers r) []) (rows_from s (map (split_in file) vs))
  of_vectors s [] = refl
  of_vectors s (v ∷ vs) =
      numbered-append (λ j t. only_if (is_blocked file x t) j) s (vector_targets file v) (flat_map (vector_targets file) vs)
      ∙ ap₂ (λ l m. l ++ m) (blocked_here file x there v s)
      (of_vectors (s + length (vector_targets file v)) vs
      ∙ ap (λ n. flat_map (λ r. cond (blocks x.number (table_in file x) r) (all_numbers r) []) (rows_from (s + n) (map (split_in file) vs))) (count_targets file v))

  not_silent : (xs : List Element) → All (λ t. is_blocked file x t ≡ false) (flat_map (silent_of file) xs)
  not_silent [] = All-nil (λ t. is_blocked file x t ≡ false)
  not_silent (w ∷ xs) =
      All-append (λ t. is_blocked file x t ≡ false) (silent_of file w) (flat_map (silent_of file) xs)
      (All-map (λ t. is_blocked file x t ≡ false) (λ r. record { vector = None; writer = None; maker = Some r }) (filter (earns_alone file) (placed_edges w)) (λ k d l. refl)) (not_silent xs)

  pub blocked_all : places_of (is_blocked file x) (targets file) ≡ flat_map all_numbers (filter (blocks x.number (table_in file x)) (rows_from 0 (map (split_in file) file.vectors)))
  blocked_all =
      numbered-append (λ j t. only_if (is_blocked file x t) j) 0 (flat_map (vector_targets file) file.vectors) (silent_targets file)
      ∙ ap₂ (λ l m. l ++ m) (of_vectors 0 file.vectors) (no_places (is_blocked file x) (0 + length (flat_map (vector_targets file) file.vectors)) (silent_targets file) (not_silent (elements file)))
      ∙ append-nil (flat_map (λ r. cond (blocks x.number (table_in file x) r) (all_numbers r) []) (rows_from 0 (map (split_in file) file.vectors)))
      ∙ flat_kept (blocks x.number (table_in file x)) all_numbers (rows_from 0 (map (split_in file) file.vectors))
