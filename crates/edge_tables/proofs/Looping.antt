-- What the loops of an element add to what is known of its automaton's edges, and to what is counted of them.
use Rattle.std.specs.Prelude.{◌≡◌, ℕ, ◌+◌, ◌*◌, List, [], ◌∷◌, ◌++◌, map, length, Bool, true, false, not, ◌&&◌, ◌||◌, Option, Some, is_some, Vec}
use Rattle.std.specs.Global.{Global}
use Rattle.std.specs.List.{All, filter, fold, sum_by}
use Rattle.std.proofs.Common.{refl, sym, ap, ap₂, ◌∙◌, append_assoc, append-nil, arith}
use Rattle.std.proofs.Math.Path.{fun_ext}
use Rattle.std.proofs.Math.Bool.{and-false, and-true}
use Rattle.std.proofs.Math.Nat.{add_comm, mul-add, mul_comm, mul-zero, suc-mul, zero-mul}
use Rattle.std.proofs.lemmas.List.{length-map, map-append}
use Rattle.std.proofs.lemmas.List.Elements.{All-head, All-tail, All-weaker}
use Rattle.std.proofs.lemmas.List.Folds.{list_any-append}
use Rattle.std.proofs.lemmas.List.Sums.{fold-append, sum_by-cons}
use Rattle.basics.specs.Members.{all_each}
use Rattle.basics.specs.Texts.{bytes_eq_comm}
use Rattle.bridge_io.specs.declared.reason.Named.{Named}
use Rattle.op_trees.specs.Names.{is_called}
use Rattle.op_trees.specs.Tree.{node_count, Two}
use Rattle.process_core.specs.Ready.{Name}
use Rattle.process_core.specs.Instance.{only_if}
use Rattle.process_core.specs.Often.{sum_by-flat_map, sum_by-map}
use Rattle.name_rules.specs.Names.{has_name, is_among}
use Rattle.jani_tree.specs.JaniOp.TheVariants.{Or}
use Rattle.jani_tree.specs.Syntax.{Expression, Location, Edge, Write, Automaton, automaton_of, edge_of}
use Rattle.jani_meaning.specs.Loops.{either, has_name as has_label, loop_at, loops, none_of, or_true}
use Rattle.jani_meaning.specs.LoopLaws.{edges_are, loops_have}
use Rattle.jani_meaning.proofs.Columns.{numbered-append}
use Rattle.jani_loops.specs.declared.accepting.ElementAutomaton.{ElementAutomaton}
use Rattle.jani_loops.specs.Elements.{element_view}
use Rattle.jani_loops.specs.Looped.{staying}
use Rattle.jani_loops.proofs.Made.{chosen_twice}
use Rattle.prism_translation.specs.Elements.{action_of}
use Rattle.prism_translation.specs.Refused.{destination_nodes, edge_nodes, nodes_if}
use Rattle.edge_tables.specs.declared.edges.ElementEdges.{ElementEdges}
use Rattle.edge_tables.specs.declared.edges.RankedEdge.{RankedEdge}
use Rattle.edge_tables.specs.Tables.{EdgeTable, Ranked, Split, and_loops, has_action, has_some, is_looped, is_plain, ranked, ranked_from, ranked_loop, rewarding_numbers, table_of}
use Rattle.edge_tables.specs.Counts.{action_count, edge_count, edges_at, guard_nodes, joined_nodes, noting_destinations, noting_edges, Writing}
use Rattle.edge_tables.specs.Code.{loops_of, numbers_in, own_table, ranked_view, shape_kept, shape_of, table_view}
use Rattle.edge_tables.proofs.Numbered.{no_places, places_more}
use Rattle.edge_tables.proofs.EdgeTables.{n_ranked}

-- ---- edges that assign no rewards, behind others
module _ (q : Edge → Bool) where
  abbrev pub IsQuiet : Edge → Type 0
  IsQuiet e = q e ≡ false

  ranked-all : (before own es : List Edge) → ranked_from q before (own ++ es) ≡ ranked_from q before own ++ ranked_from q (before ++ own) es
  ranked-all before [] es = ap (λ l. ranked_from q l es) (sym (append-nil before))
  ranked-all before (d ∷ own) es =
      ap (λ l. ranked q before d ∷ l)
      (ranked-all (before ++ d ∷ []) own es ∙ ap (λ l. ranked_from q (before ++ d ∷ []) own ++ ranked_from q l es) (append_assoc before (d ∷ []) own))

  no_number : (a : Option Name) (e : Edge) → IsQuiet e → (has_action a e && q e) ≡ false
  no_number a e h = ap (λ b. has_action a e && b) h ∙ and-false (has_action a e)

  same_numbers : (own es : List Edge) → All IsQuiet es → (a : Option Name) → rewarding_numbers q a (own ++ es) ≡ rewarding_numbers q a own
  same_numbers own es h a =
      numbered-append (λ i e. only_if (has_action a e && q e) i) 0 own es
      ∙ ap (λ l. rewarding_numbers q a own ++ l)
      (no_places (λ e. has_action a e && q e) (0 + length own) es (All-weaker IsQuiet (λ e. (has_action a e && q e) ≡ false) (no_number a) es h))
      ∙ append-nil (rewarding_numbers q a own)

  ranked_quiet : (own before es : List Edge) → ((a : Option Name) → rewarding_numbers q a before ≡ rewarding_numbers q a own) → All IsQuiet es →
      ranked_from q before es ≡ map (ranked_loop (λ a. rewarding_numbers q a own)) es
  ranked_quiet own before [] same h = refl
  ranked_quiet own before (e ∷ es) same h =
      ap₂ (λ (r : Ranked) l. r ∷ l)
      (ap₂ (λ b (n : List ℕ). record { edge = e; rewarding = b; rank = length n }) (All-head IsQuiet e es h) (same (action_of e)))
      (ranked_quiet own (before ++ e ∷ []) es
      (λ a.
      places_more (λ d. has_action a d && q d) before e
      ∙ ap (λ b. rewarding_numbers q a before ++ only_if b (length before)) (no_number a e (All-head IsQuiet e es h))
      ∙ append-nil (rewarding_numbers q a before)
      ∙ same a) (All-tail IsQuiet e es h))

  -- ---- the loops of an automaton, which assign nothing
  module _ (a : Automaton) (quiet : (x : Named) (l : Location) → q (loop_at a x l) ≡ false) where
    quiet_loops : (xs : List Named) → All IsQuiet (loops xs a)
    quiet_loops xs =
        loops_have IsQuiet a xs
        (all_each (λ x. All (λ l. IsQuiet (loop_at a x l)) a.locations) (λ x. all_each (λ l. IsQuiet (loop_at a x l)) (quiet x) a.locations) xs)

    plain_one : (x : Name) (y : Named) (ls : List Location) → is_plain q (map (loop_at a y) ls) x ≡ (is_called x y && has_some ls)
    plain_one x y [] = sym (and-false (is_called x y))
    plain_one x y (l ∷ ls) =
        ap₂ (λ b c. b || c) (ap₂ (λ b c. b && not c) (bytes_eq_comm x y.name) (quiet y l) ∙ and-true (is_called x y)) (plain_one x y ls) ∙ by_test (is_called x y)
      where
        by_test : (b : Bool) → (b || (b && has_some ls)) ≡ (b && true)
        by_test true = refl
        by_test false = refl

    plain_all : (x : Name) (xs : List Named) → is_plain q (loops xs a) x ≡ is_looped xs a x
    plain_all x [] = refl
    plain_all x (y ∷ ys) =
        list_any-append (λ e. has_action (Some x) e && not (q e)) (map (loop_at a y) a.locations) (loops ys a)
        ∙ ap₂ (λ b c. b || c) (plain_one x y a.locations) (plain_all x ys)
        ∙ by_tests (is_called x y) (is_among ys x) (has_some a.locations)
      where
        by_tests : (b c h : Bool) → ((b && h) || (c && h)) ≡ ((b || c) && h)
        by_tests true c true = refl
        by_tests true true false = refl
        by_tests true false false = refl
        by_tests false c h = refl

    pub loops_besides : (xs : List Named) → table_of q (a.edges ++ loops xs a) ≡ and_loops (table_of q a.edges) xs a
    loops_besides xs =
        ap₂ (λ (f : List Ranked) (g : (Option Name → List ℕ) × (Name → Bool)). record { edges = f; rewarding = g.0; plain = g.1 })
        (ranked-all [] a.edges (loops xs a) ∙ ap (λ l. ranked_from q [] a.edges ++ l) (ranked_quiet a.edges a.edges (loops xs a) (λ b. refl) (quiet_loops xs)))
        (ap₂ (λ (f : Option Name → List ℕ) (g : Name → Bool). (f, g))
        (fun_ext (same_numbers a.edges (loops xs a) (quiet_loops xs)))
        (fun_ext (λ x. list_any-append (λ e. has_action (Some x) e && not (q e)) a.edges (loops xs a) ∙ ap (λ b. is_plain q a.edges x || b) (plain_all x xs))))

-- where the actions of the loops were noted
pub looped_table : (q : Edge → Bool) (t u : ElementEdges) → ((x : Named) (l : Location) → q (loop_at (automaton_of t.element.automaton.now) x l) ≡ false) →
    u.element ≡ t.element → u.edges ≡ t.edges → ((x : Option Name) → numbers_in u x ≡ numbers_in t x) →
    ((x : Name) → has_name u.plain x ≡ (has_name t.plain x || is_looped t.element.accepts.now (automaton_of t.element.automaton.now) x)) →
    own_table t ≡ table_of q (automaton_of t.element.automaton.now).edges → table_view u ≡ table_of q (element_view t.element).edges
looped_table q t u quiet element edges numbers plain own =
    let xs = t.element.accepts.now in
    let a = automaton_of t.element.automaton.now in
    ap₂ (λ (f : List Ranked) (g : (Option Name → List ℕ) × (Name → Bool)). record { edges = f; rewarding = g.0; plain = g.1 })
    (ap₂ (λ (f : List Ranked) (l : List Ranked). f ++ l) (ap (λ (es : Vec RankedEdge Global). map ranked_view es.items) edges)
    (ap₂ (λ (n : Option Name → List ℕ) (l : List Edge). map (ranked_loop n) l) (fun_ext numbers) (ap loops_of element)))
    (ap₂ (λ (f : Option Name → List ℕ) (g : Name → Bool). (f, g)) (fun_ext numbers) (fun_ext plain))
    ∙ ap (λ (e : EdgeTable). and_loops e xs a) own
    ∙ sym (loops_besides q a quiet xs)
    ∙ ap (table_of q) (sym (edges_are xs a))

-- how many edges there are
pub shape_is : (q : Edge → Bool) (u t : ElementEdges) (e : ElementAutomaton) → u.element ≡ e → u.edges ≡ t.edges → own_table t ≡ table_of q (automaton_of e.automaton.now).edges → shape_kept u ≡ shape_of e
shape_is q u t e element edges own =
    ap₂ (λ n (x : ElementAutomaton). record { edges = n; loops = length x.accepts.now; locations = length x.automaton.now.locations })
    (ap (λ (es : Vec RankedEdge Global). length es.items) edges
    ∙ sym (length-map t.edges.items ranked_view)
    ∙ ap (λ (x : EdgeTable). length x.edges) own
    ∙ n_ranked q [] (automaton_of e.automaton.now).edges
    ∙ length-map e.automaton.now.edges edge_of)
    element

-- ---- sums
sum_same : {X : Type 0} (c : ℕ) (xs : List X) → sum_by (λ x. c) xs ≡ length xs * c
sum_same c [] = sym (zero-mul c)
sum_same c (x ∷ xs) = sum_by-cons (λ y. c) x xs ∙ ap (λ n. c + n) (sum_same c xs) ∙ add_comm c (length xs * c) ∙ sym (suc-mul (length xs) c)

sum_times : {X : Type 0} (f : X → ℕ) (c : ℕ) (xs : List X) → sum_by (λ x. f x * c) xs ≡ c * sum_by f xs
sum_times f c [] = sym (mul-zero c)
sum_times f c (x ∷ xs) =
    sum_by-cons (λ y. f y * c) x xs ∙ ap (λ n. f x * c + n) (sum_times f c xs) ∙ distributed (f x) (sum_by f xs) c ∙ ap (λ n. c * n) (sym (sum_by-cons f x xs))
  where
    distributed : (m n c : ℕ) → m * c + c * n ≡ c * (m + n)
    distributed m n c = ap (λ y. y + c * n) (mul_comm m c) ∙ sym (mul-add c m n)

-- a sum over all loops, action by action and location by location
sum_loops : (f : Edge → ℕ) (g : Named → ℕ) (a : Automaton) (xs : List Named) → ((x : Named) → sum_by (λ l. f (loop_at a x l)) a.locations ≡ g x) → sum_by f (loops xs a) ≡ sum_by g xs
sum_loops f g a xs each =
    sum_by-flat_map f (λ x. map (loop_at a x) a.locations) xs
    ∙ ap (λ (h : Named → ℕ). sum_by h xs) (fun_ext (λ x. sum_by-map f (loop_at a x) a.locations ∙ each x))

-- ---- nodes of the guards of loops
module _ (ss : List Split) (k : ℕ) (a : Automaton) where
  pub loops_count : (r : Option Name → List ℕ) (xs : List Named) →
      sum_by (edge_count ss k) (map (ranked_loop r) (loops xs a)) ≡ sum_by (λ x. length a.locations * action_count ss k (Some x.name)) xs
  loops_count r xs =
      sum_by-map (edge_count ss k) (ranked_loop r) (loops xs a)
      ∙ sum_loops (λ e. edge_count ss k (ranked_loop r e)) (λ x. length a.locations * action_count ss k (Some x.name)) a xs (λ x. sum_same (action_count ss k (Some x.name)) a.locations)

  joined : (g : Expression) (es : List Edge) → node_count (either g (map (λ e. or_true e.guard) es)) ≡ node_count g + joined_nodes es
  joined g [] = omega arith
  joined g (e ∷ es) =
      let more : joined_nodes (e ∷ es) ≡ node_count (or_true e.guard) + 1 + joined_nodes es = sum_by-cons (λ e. node_count (or_true e.guard) + 1) e es in
      joined (Two 0 Or g (or_true e.guard)) es ∙ (let f : node_count g + node_count (or_true e.guard) + 1 + joined_nodes es ≡ node_count g + joined_nodes (e ∷ es) = omega (arith, more) in f)

  pub none_nodes : (es : List Edge) → nodes_if (none_of (map (λ e. or_true e.guard) es)) ≡ joined_nodes es
  none_nodes [] = refl
  none_nodes (e ∷ es) =
      let more : joined_nodes (e ∷ es) ≡ node_count (or_true e.guard) + 1 + joined_nodes es = sum_by-cons (λ e. node_count (or_true e.guard) + 1) e es in
      ap (λ n. n + 1) (joined (or_true e.guard) es) ∙ (let f : node_count (or_true e.guard) + joined_nodes es + 1 ≡ joined_nodes (e ∷ es) = omega (arith, more) in f)

  loop_nodes : (x : Named) (l : Location) → edge_nodes (loop_at a x l) ≡ joined_nodes (edges_at l (filter (λ e. has_label x.name e.action) a.edges))
  loop_nodes x l =
      ap (λ n. nodes_if (loop_at a x l).guard + n) (let e : sum_by destination_nodes (staying l.name ∷ []) ≡ 0 = sum_by-cons destination_nodes (staying l.name) [] in e)
      ∙ (let e : nodes_if (loop_at a x l).guard + 0 ≡ nodes_if (loop_at a x l).guard = omega arith in e)
      ∙ none_nodes _
      ∙ ap joined_nodes (sym (chosen_twice x.name l.name.name a.edges))

  pub loops_nodes : (r : Option Name → List ℕ) (xs : List Named) →
      sum_by (λ e. edge_nodes e.edge * edge_count ss k e) (map (ranked_loop r) (loops xs a)) ≡ sum_by (λ x. action_count ss k (Some x.name) * guard_nodes a x) xs
  loops_nodes r xs =
      sum_by-map (λ e. edge_nodes e.edge * edge_count ss k e) (ranked_loop r) (loops xs a)
      ∙ sum_loops (λ e. edge_nodes e * edge_count ss k (ranked_loop r e)) (λ x. action_count ss k (Some x.name) * guard_nodes a x) a xs
      (λ x.
      sum_times (λ l. edge_nodes (loop_at a x l)) (action_count ss k (Some x.name)) a.locations
      ∙ ap (λ (f : Location → ℕ). action_count ss k (Some x.name) * sum_by f a.locations) (fun_ext (loop_nodes x)))

-- ---- loops assign no variable
pub unnoted : (to : Write → Bool) (k : ℕ) (r : Option Name → List ℕ) (own : List Ranked) (xs : List Named) (a : Automaton) (w : Writing) →
    noting_edges to k w (own ++ map (ranked_loop r) (loops xs a)) ≡ noting_edges to k w own
unnoted to k r own xs a w = fold-append step w own (map (ranked_loop r) (loops xs a)) ∙ all xs (fold step w own)
  where
    step : Writing → Ranked → Writing
    step s e = noting_destinations to k (is_some e.edge.action || e.rewarding) s e.edge.destinations

    one : (x : Named) (ls : List Location) (s : Writing) → fold step s (map (ranked_loop r) (map (loop_at a x) ls)) ≡ s
    one x [] s = refl
    one x (l ∷ ls) s = one x ls s

    all : (ys : List Named) (s : Writing) → fold step s (map (ranked_loop r) (loops ys a)) ≡ s
    all [] s = refl
    all (y ∷ ys) s =
        ap (fold step s) (map-append (ranked_loop r) (map (loop_at a y) a.locations) (loops ys a))
        ∙ fold-append step s (map (ranked_loop r) (map (loop_at a y) a.locations)) (map (ranked_loop r) (loops ys a))
        ∙ ap (λ s. fold step s (map (ranked_loop r) (loops ys a))) (one y a.locations s)
        ∙ all ys s
