-- What the loops of an element serve.
use Rattle.std.specs.Prelude.{◌≡◌, ℕ, List, [], ◌∷◌, ◌++◌, map, length, replicate, Bool, false, Option, None, Vec, Result, Ok, Err, IfOk}
use Rattle.std.specs.Global.{Global}
use Rattle.std.specs.List.{flat_map}
use Rattle.std.proofs.Common.{refl, sym, ap, ap₂, subst, ◌∙◌}
use Rattle.std.proofs.lemmas.List.{length-map, map-append}
use Rattle.bridge_io.specs.declared.reason.Named.{Named}
use Rattle.process_core.specs.Ready.{Name}
use Rattle.jani_tree.specs.Syntax.{Automaton, Edge, Location, automaton_of}
use Rattle.jani_meaning.specs.Loops.{loop_at, loops}
use Rattle.edge_tables.specs.declared.edges.ElementEdges.{ElementEdges}
use Rattle.edge_tables.specs.Tables.{Row, edge_serves, element_serves, ranked_loop}
use Rattle.edge_tables.specs.Code.{loops_of, numbers_in, ranked_view, shape_kept, table_view}
use Rattle.prism_targets.specs.declared.served.ElementServing.{ElementServing}
use Rattle.prism_targets.specs.Code.{edge_served, element_served, loop_serves, loops_served, shape_served}

pub any_edge : Edge
any_edge = record { location = record { name = []; at = 0 }; action = None; guard = None; destinations = []; at = 0 }

module _ (rows : List Row) (k first : ℕ) (r : Option Name → List ℕ) (a : Automaton) where
  one_action : (x : Named) (ls : List Location) → map (edge_serves rows k first) (map (ranked_loop r) (map (loop_at a x) ls)) ≡ replicate (length ls) (loop_serves rows k x.name, false)
  one_action x [] = refl
  one_action x (l ∷ ls) = ap (λ m. (loop_serves rows k x.name, false) ∷ m) (one_action x ls)

  all_actions : (xs : List Named) (served : List (Vec ℕ Global)) (n : ℕ) → n ≡ length a.locations → map (λ ns. ns.items) served ≡ map (λ x. loop_serves rows k x.name) xs →
      flat_map (loops_served n) served ≡ map (edge_serves rows k first) (map (ranked_loop r) (loops xs a))
  all_actions [] [] n many e = refl
  all_actions [] (ns ∷ served) n many e = absurd cc
  all_actions (x ∷ xs) [] n many e = absurd cc
  all_actions (x ∷ xs) (ns ∷ served) n many e =
      let here : ns.items ≡ loop_serves rows k x.name = cc in
      let rest : map (λ (ns : Vec ℕ Global). ns.items) served ≡ map (λ (x : Named). loop_serves rows k x.name) xs = cc in
      ap₂ (λ (l m : List (List ℕ × Bool)). l ++ m) (ap₂ (λ j (ms : List ℕ). replicate j (ms, false)) many here ∙ sym (one_action x a.locations)) (all_actions xs served n many rest)
      ∙ sym (map-append (edge_serves rows k first) (map (ranked_loop r) (map (loop_at a x) a.locations)) (map (ranked_loop r) (loops xs a)))
      ∙ ap (map (edge_serves rows k first)) (sym (map-append (ranked_loop r) (map (loop_at a x) a.locations) (loops xs a)))

-- an element, by what its automaton's edges and its loops serve, and what it blocks
pub element_is : (rows : List Row) (k first : ℕ) (t : ElementEdges) (s : ElementServing) →
    map edge_served s.edges.items ≡ map (edge_serves rows k first) (map ranked_view t.edges.items) →
    map (λ ns. ns.items) s.loops.items ≡ map (λ x. loop_serves rows k x.name) t.element.accepts.now →
    s.locations ≡ length t.element.automaton.now.locations → s.blocked.items ≡ (element_serves rows k first (table_view t)).blocked →
    element_served s ≡ element_serves rows k first (table_view t)
element_is rows k first t s own looped many blocked =
    ap₂ (λ l m. record { edges = l; blocked = m })
    (ap₂ (λ (l m : List (List ℕ × Bool)). l ++ m) own
    (all_actions rows k first (numbers_in t) (automaton_of t.element.automaton.now) t.element.accepts.now s.loops.items s.locations
    (many ∙ sym (length-map t.element.automaton.now.locations _)) looped)
    ∙ sym (map-append (edge_serves rows k first) (map ranked_view t.edges.items) (map (ranked_loop (numbers_in t)) (loops_of t.element))))
    blocked

as_long : {A B C : Type 0} (f : A → C) (g : B → C) (xs : List A) (ys : List B) → map f xs ≡ map g ys → length xs ≡ length ys
as_long f g xs ys e = sym (length-map xs f) ∙ ap length e ∙ length-map ys g

pub shape_is : (rows : List Row) (k first : ℕ) (t : ElementEdges) (s : ElementServing) →
    map edge_served s.edges.items ≡ map (edge_serves rows k first) (map ranked_view t.edges.items) →
    map (λ ns. ns.items) s.loops.items ≡ map (λ x. loop_serves rows k x.name) t.element.accepts.now →
    s.locations ≡ length t.element.automaton.now.locations → shape_served s ≡ shape_kept t
shape_is rows k first t s own looped many =
    ap₂ (λ m (p : ℕ × ℕ). record { edges = m; loops = p.0; locations = p.1 })
    (as_long edge_served (edge_serves rows k first) s.edges.items (map ranked_view t.edges.items) own ∙ length-map t.edges.items ranked_view)
    (ap₂ (λ m n. (m, n)) (as_long (λ (ns : Vec ℕ Global). ns.items) (λ (x : Named). loop_serves rows k x.name) s.loops.items t.element.accepts.now looped) many)

-- what is told of the second of two results
pub second_told : {A B E : Type 0} (a : Result A E) (b : Result B E) (r : Result (A × B) E) (Q P : B → Type 0) → ((y : B) → Q y → P y) →
    IfOk b Q → IfOk r (λ both. (a ≡ Ok both.0) × (b ≡ Ok both.1)) → IfOk r (λ both. P both.1)
second_told a b (Ok both) Q P then told are = then both.1 (subst (λ y. IfOk y Q) are.1 told)
second_told a b (Err e) Q P then told are = tt

pub ok_told : {A E : Type 0} (r : Result A E) (x : A) (P : A → Type 0) → r ≡ Ok x → IfOk r P → P x
ok_told r x P e h = subst (λ y. IfOk y P) e h
