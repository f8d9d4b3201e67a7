-- Which targets of a file an edge serves.
use Rattle.std.specs.Prelude.{◌≡◌, ℕ, ◌+◌, ◌<◌, ◌≤◌, List, [], ◌∷◌, ◌++◌, map, length, Bool, true, false, ◌&&◌, ◌||◌, cond, Option, Some, None, is_none, nat_eq}
use Rattle.std.specs.List.{filter, flat_map, All}
use Rattle.std.specs.Option.{option_map}
use Rattle.std.proofs.Common.{refl, sym, ap, ap₂, ◌∙◌, subst, arith, append-nil, length-append}
use Rattle.std.proofs.lemmas.Bool.{ne_eqb}
use Rattle.std.proofs.lemmas.List.{length-map}
use Rattle.std.proofs.lemmas.List.Elements.{All-head, All-tail, All-weaker, All-map, All-filter}
use Rattle.std.proofs.lemmas.List.Concat.{flat_map-append}
use Rattle.basics.specs.Members.{all_each}
use Rattle.basics.specs.Numbers.{nat_eq-self}
use Rattle.bridge_io.specs.declared.reason.Named.{Named}
use Rattle.process_core.specs.Ready.{Name, same_label}
use Rattle.jani_tree.specs.Syntax.{Edge, Automaton, Vector, File}
use Rattle.jani_meaning.specs.Elements as jani
use Rattle.jani_meaning.proofs.Columns.{numbered-append, numbered_at}
use Rattle.process_core.specs.Instance.{only_if}
use Rattle.prism_translation.specs.Elements.{Element, elements, edges_of, Placed, placed_edges, action_of, rewards}
use Rattle.prism_translation.specs.Targets.{part_of, is_named, reward_writer, Target, vector_targets, is_silent, silent_targets, targets, serves}
use Rattle.prism_translation.proofs.Numbered.{placed_from, at_element, numbered_from, numbers_from, numbers_below}
use Rattle.choice_laws.proofs.Walks.{kept_walk, flat_map_none}
use Rattle.edge_tables.specs.Tables.{places_of, has_action, Ranked, split_by, split_in, Row, row_at, rows_from, numbers_by, calls, served_under}
use Rattle.edge_tables.proofs.Numbered.{numbered-map, places_from, places_agree, no_places}
use Rattle.edge_tables.proofs.Members.{IsElement, all_elements, is_numbered}
use Rattle.edge_tables.proofs.Serves.{p, q, a, place_among, before_all, rank_is, served_of, count_targets}

-- ---- lists

pub middle : {X : Type 0} (P : X → Type 0) (xs ys : List X) (y : X) → All P (xs ++ y ∷ ys) → P y
middle P [] ys y h = All-head P y ys h
middle P (x ∷ xs) ys y h = middle P xs ys y (All-tail P x (xs ++ y ∷ ys) h)

pub flat_kept : {X Y : Type 0} (t : X → Bool) (f : X → List Y) (xs : List X) → flat_map (λ x. cond (t x) (f x) []) xs ≡ flat_map f (filter t xs)
flat_kept t f xs = kept_walk t (λ x. cond (t x) (f x) []) f (λ x e. ap (λ b. cond b (f x) []) e) (λ x e. ap (λ b. cond b (f x) []) e) xs

pub vector_is : (file : File) (v : Vector) → (split_in file v).vector ≡ v
vector_is file v = by_writer (reward_writer file v)
  where
    by_writer : (o : Option Element) → (split_by file v o).vector ≡ v
    by_writer None = refl
    by_writer (Some w) = refl

-- ---- silent edges that assign rewards
abbrev pub earns_alone : File → Placed → Bool
earns_alone file r = is_silent r && rewards file r

abbrev pub silent_of : File → Element → List Target
silent_of file w = map (λ r. record { vector = None; writer = None; maker = Some r }) (filter (earns_alone file) (placed_edges w))

module _ (file : File) (us ws : List Automaton) (w : Automaton) (autos : jani.elements file ≡ us ++ w ∷ ws) where
  abbrev pub el : Element
  el = record { number = length us; automaton = w }

  pub elements_are : elements file ≡ numbered_from 0 us ++ el ∷ numbered_from (length us + 1) ws
  elements_are =
      ap (numbered_from 0) autos ∙ numbered_at (λ k b. record { number = k; automaton = b } ∷ []) 0 (length us) us (w ∷ ws) (omega arith)

  pub here : IsElement file el
  here = middle (IsElement file) (numbered_from 0 us) (numbered_from (length us + 1) ws) el (subst (All (IsElement file)) elements_are (all_elements file))

  -- where numbers of targets are not changed
  module _ (before after : List Edge) (e : Edge) (edges : edges_of el ≡ before ++ e ∷ after) (cap : ℕ → ℕ) (total : ℕ) (keeps : (n : ℕ) → n ≤ total → cap n ≡ n) where
    abbrev pub own : Placed
    own = p file el here before after e edges

    abbrev pub act : Ranked
    act = a file el here before after e edges

    abbrev serving : Target → Bool
    serving t = serves file t own

    -- ---- of vectors
    abbrev named : Row → Bool
    named r = is_named (part_of r.split.vector (length us)) (action_of e)

    of_vectors : (s : ℕ) (vs : List Vector) → s + length (flat_map (vector_targets file) vs) ≤ total →
        places_from serving s (flat_map (vector_targets file) vs) ≡ flat_map (λ r. cond (named r) (numbers_by cap (length us) act r) []) (rows_from s (map (split_in file) vs))
    of_vectors s [] fits = refl
    of_vectors s (v ∷ vs) fits =
        let n : length (flat_map (vector_targets file) (v ∷ vs)) ≡ length (vector_targets file v) + length (flat_map (vector_targets file) vs) = length-append (vector_targets file v) (flat_map (vector_targets file) vs) in
        let c = count_targets file v in
        numbered-append (λ j t. only_if (serving t) j) s (vector_targets file v) (flat_map (vector_targets file) vs)
        ∙ ap₂ (λ x y. x ++ y)
        (served_of file el here before after e edges v cap total keeps s (omega (arith, fits, n))
        ∙ ap (λ (u : Vector). cond (is_named (part_of u (length us)) (action_of e)) (numbers_by cap (length us) act (row_at s (split_in file v))) []) (sym (vector_is file v)))
        (of_vectors (s + length (vector_targets file v)) vs (omega (arith, fits, n))
        ∙ ap (λ m. flat_map (λ r. cond (named r) (numbers_by cap (length us) act r) []) (rows_from (s + m) (map (split_in file) vs))) c)

    -- ---- of silent edges
    other_element : (x : Element) → (length us ≡ x.number → ⊥) → (s : ℕ) → places_from serving s (silent_of file x) ≡ []
    other_element x other s =
        no_places serving s (silent_of file x)
        (All-map (λ t. serving t ≡ false) (λ r. record { vector = None; writer = None; maker = Some r }) (filter (earns_alone file) (placed_edges x))
        (All-filter (earns_alone file) (λ r. serving (record { vector = None; writer = None; maker = Some r }) ≡ false) (placed_edges x)
        (All-weaker (λ r. r.element ≡ x) (λ r. serving (record { vector = None; writer = None; maker = Some r }) ≡ false)
        (λ r at. ap (λ b. (b && nat_eq (length before) r.number) || false) (ne_eqb (length us) r.element.number (λ n. other (n ∙ ap (λ (y : Element). y.number) at))))
        (placed_edges x) (at_element x 0 (edges_of x)))))

    other_elements : (xs : List Element) → All (λ x. length us ≡ x.number → ⊥) xs → (s : ℕ) → places_from serving s (flat_map (silent_of file) xs) ≡ []
    other_elements [] h s = refl
    other_elements (x ∷ xs) h s =
        numbered-append (λ j t. only_if (serving t) j) s (silent_of file x) (flat_map (silent_of file) xs)
        ∙ ap₂ (λ l m. l ++ m) (other_element x (All-head (λ x. length us ≡ x.number → ⊥) x xs h) s)
        (other_elements xs (All-tail (λ x. length us ≡ x.number → ⊥) x xs h) (s + length (silent_of file x)))

    abbrev earlier : ℕ
    earlier = length (filter (earns_alone file) (placed_from el 0 before))

    own_element : (s : ℕ) → places_from serving s (silent_of file el) ≡ only_if (earns_alone file own) (s + earlier)
    own_element s =
        numbered-map (λ j t. only_if (serving t) j) (λ r. record { vector = None; writer = None; maker = Some r }) s (filter (earns_alone file) (placed_edges el))
        ∙ places_agree (λ r. serving (record { vector = None; writer = None; maker = Some r })) (is_numbered (length before)) s (filter (earns_alone file) (placed_edges el))
        (All-filter (earns_alone file) (λ r. serving (record { vector = None; writer = None; maker = Some r }) ≡ is_numbered (length before) r) (placed_edges el)
        (All-weaker (λ r. r.element ≡ el) (λ r. serving (record { vector = None; writer = None; maker = Some r }) ≡ is_numbered (length before) r)
        (λ r at. ap (λ b. (b && nat_eq (length before) r.number) || false) (ap (λ (y : Element). nat_eq (length us) y.number) at ∙ nat_eq-self (length us)) ∙ or_false (nat_eq (length before) r.number))
        (placed_edges el) (at_element el 0 (edges_of el))))
        ∙ place_among file el here before after e edges (earns_alone file) s
      where
        or_false : (b : Bool) → (b || false) ≡ b
        or_false true = refl
        or_false false = refl

    of_silent : (s : ℕ) → places_from serving s (silent_targets file) ≡ only_if (earns_alone file own) (s + length (flat_map (silent_of file) (numbered_from 0 us)) + earlier)
    of_silent s =
        ap (λ l. places_from serving s (flat_map (silent_of file) l)) elements_are
        ∙ ap (places_from serving s) (flat_map-append (silent_of file) (numbered_from 0 us) (el ∷ numbered_from (length us + 1) ws))
        ∙ numbered-append (λ j t. only_if (serving t) j) s front (silent_of file el ++ back)
        ∙ ap₂ (λ l m. l ++ m)
        (other_elements (numbered_from 0 us) (All-weaker (λ x. x.number < 0 + length us) (λ x. length us ≡ x.number → ⊥) (λ x l n. omega (arith, l, n)) (numbered_from 0 us) (numbers_below 0 us)) s)
        (numbered-append (λ j t. only_if (serving t) j) (s + length front) (silent_of file el) back
        ∙ ap₂ (λ l m. l ++ m) (own_element (s + length front))
        (other_elements (numbered_from (length us + 1) ws)
        (All-weaker (λ x. length us + 1 ≤ x.number) (λ x. length us ≡ x.number → ⊥) (λ x l n. omega (arith, l, n)) (numbered_from (length us + 1) ws) (numbers_from (length us + 1) ws))
        (s + length front + length (silent_of file el)))
        ∙ append-nil (only_if (earns_alone file own) (s + length front + earlier)))
      where
        front : List Target
        front = flat_map (silent_of file) (numbered_from 0 us)

        back : List Target
        back = flat_map (silent_of file) (numbered_from (length us + 1) ws)

    -- ---- of all
    abbrev pub rows : List Row
    rows = rows_from 0 (map (split_in file) file.vectors)

    abbrev pub first : ℕ
    first = length (flat_map (vector_targets file) file.vectors) + length (flat_map (silent_of file) (numbered_from 0 us))

    silent_rank : e.action ≡ None → earlier ≡ act.rank
    silent_rank h =
        rank_is file el here before after e edges (earns_alone file) (λ d. has_action (action_of e) d && q file el here before after e edges d)
        (λ j d. ap (λ b. b && q file el here before after e edges d) (by_action d.action ∙ ap (λ (b : Option Named). same_label (option_map (λ n. n.name) b) (action_of d)) (sym h)))
      where
        by_action : (b : Option Named) → is_none b ≡ same_label None (option_map (λ n. n.name) b)
        by_action None = refl
        by_action (Some n) = refl

    pub served_all : length (targets file) ≤ total → places_of serving (targets file) ≡ served_under cap rows (length us) first act (action_of e)
    served_all fits =
        numbered-append (λ j t. only_if (serving t) j) 0 (flat_map (vector_targets file) file.vectors) (silent_targets file)
        ∙ ap₂ (λ l m. l ++ m)
        (of_vectors 0 file.vectors (let n = length-append (flat_map (vector_targets file) file.vectors) (silent_targets file) in omega (arith, fits, n)))
        (of_silent (0 + length (flat_map (vector_targets file) file.vectors))
        ∙ ap (only_if (earns_alone file own)) (let f : 0 + length (flat_map (vector_targets file) file.vectors) + length (flat_map (silent_of file) (numbered_from 0 us)) + earlier ≡ first + earlier = omega arith in f))
        ∙ by_action e.action refl
      where
        none_named : (o : Option Name) → is_named o None ≡ false
        none_named None = refl
        none_named (Some x) = refl

        counted : first + earlier ≤ total
        counted =
            let n = length-append (flat_map (vector_targets file) file.vectors) (silent_targets file) in
            let m : length (silent_targets file) ≡ length (flat_map (silent_of file) (numbered_from 0 us)) + length (silent_of file el ++ flat_map (silent_of file) (numbered_from (length us + 1) ws)) =
            ap (λ l. length (flat_map (silent_of file) l)) elements_are
            ∙ ap length (flat_map-append (silent_of file) (numbered_from 0 us) (el ∷ numbered_from (length us + 1) ws))
            ∙ length-append (flat_map (silent_of file) (numbered_from 0 us)) (silent_of file el ++ flat_map (silent_of file) (numbered_from (length us + 1) ws)) in
            let k = length-append (silent_of file el) (flat_map (silent_of file) (numbered_from (length us + 1) ws)) in
            let j : length (silent_of file el) ≡ length (filter (earns_alone file) (placed_edges el)) = length-map (filter (earns_alone file) (placed_edges el)) (λ r. record { vector = None; writer = None; maker = Some r }) in
            let i = before_all file el here before after e edges (earns_alone file) in
            omega (arith, fits, n, m, k, j, i)

        by_action : (o : Option Named) → e.action ≡ o →
            flat_map (λ r. cond (is_named (part_of r.split.vector (length us)) (option_map (λ n. n.name) o)) (numbers_by cap (length us) act r) []) rows
            ++ only_if (is_none o && rewards file own) (first + earlier) ≡ served_under cap rows (length us) first act (option_map (λ n. n.name) o)
        by_action None h =
            ap (λ l. l ++ only_if (rewards file own) (first + earlier))
            (flat_map_none (λ r. cond (is_named (part_of r.split.vector (length us)) None) (numbers_by cap (length us) act r) []) rows
            (all_each (λ r. cond (is_named (part_of r.split.vector (length us)) None) (numbers_by cap (length us) act r) [] ≡ []) (λ r. ap (λ b. cond b (numbers_by cap (length us) act r) []) (none_named (part_of r.split.vector (length us)))) rows))
            ∙ ap (only_if (rewards file own)) (sym (keeps (first + earlier) counted) ∙ ap (λ m. cap (first + m)) (silent_rank h))
        by_action (Some n) h = append-nil _ ∙ flat_kept (calls (length us) n.name) (numbers_by cap (length us) act) rows
