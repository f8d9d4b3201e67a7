-- The commands that edges and loops have for the targets that they serve, by the numbers of these.
use Rattle.std.proofs.Common.{◌≡◌, ℕ, suc, zero, ◌+◌, ◌<◌, List, [], ◌∷◌, ◌++◌, map, length, get_or, refl, sym, ap, ap₂, ◌∙◌, append-nil, append_assoc, arith, ne_eqb}
use Rattle.std.specs.Prelude.{Bool, true, false, Some, None, Vec, nat_eq, replicate}
use Rattle.std.specs.Global.{Global}
use Rattle.std.specs.List.{filter, flat_map}
use Rattle.std.proofs.lemmas.List.{length-map, length-replicate, get_or-map}
use Rattle.bridge_io.specs.declared.reason.Named.{Named}
use Rattle.op_trees.specs.Names.{is_called}
use Rattle.process_core.specs.Instance.{numbered, only_if}
use Rattle.name_table.specs.PrismAsks.{name_at}
use Rattle.jani_tree.specs.Syntax.{File, Edge, Location, Automaton, automaton_of, edge_of, location_of}
use Rattle.jani_meaning.specs.Loops.{has_name, loop_at, loops}
use Rattle.jani_meaning.specs.LoopLaws.{edges_are}
use Rattle.jani_loops.specs.declared.accepting.ElementAutomaton.{ElementAutomaton}
use Rattle.jani_loops.specs.Looped.{loop_with}
use Rattle.jani_loops.proofs.Made.{chosen_twice}
use Rattle.prism_tree.specs.Syntax as prism
use Rattle.prism_targets.specs.Elements.{Element, elements, Placed, edges_of, placed_edges}
use Rattle.prism_targets.specs.Targets.{targets, serves, serves_silently, is_blocked}
use Rattle.prism_targets.specs.Modules.{actions, command, commands_of}
use Rattle.prism_targets.specs.declared.served.ElementServing.{ElementServing}
use Rattle.prism_targets.specs.Tables.{places_of, Served}
use Rattle.prism_targets.specs.Serving.{edge_in, served_in}
use Rattle.prism_targets.specs.Code.{Shape, edge_served, element_served, loops_served, shape_of, shape_served}
use Rattle.module_parts.specs.declared.entries.Names.{Names}
use Rattle.module_parts.specs.declared.element.Element.{Element as CodeElement}
use Rattle.module_parts.specs.Code.{file_in, names_in, element_of, HasActions}
use Rattle.module_parts.proofs.ByPlaces.{by_places, whole_list, placed_with}
use Rattle.prism_modules.specs.Commands.{target_commands, commands_by, edge_commands, loop_commands, loops_commands, never}

-- ---- what an edge serves
-- the commands of an edge, by the numbers of the targets that it serves
commands_served : (n : Names) (el : Element) (p : Placed) → HasActions n → commands_of (file_in n) (names_in n) el p ≡ commands_by n el p.edge (edge_in (file_in n) p).0 (edge_in (file_in n) p).1
commands_served n el p has =
    ap (λ l. l ++ only_if (serves_silently (file_in n) p) (command (file_in n) (names_in n) el p.edge None))
    (by_places (λ a. command (file_in n) (names_in n) el p.edge (Some a)) (λ t. serves (file_in n) t p) (names_in n).actions 0 (targets (file_in n)) (names_in n).actions has.actions_long
    (whole_list (names_in n).actions))

-- those that block, by the numbers of their targets
pub blocking_served : (n : Names) (el : Element) (ts : List ℕ) → HasActions n → ts ≡ places_of (is_blocked (file_in n) el) (targets (file_in n)) →
    map (λ i. never (name_at (names_in n).actions i)) ts ≡ map (λ t. never t.name) (filter (λ t. is_blocked (file_in n) el t.target) (actions (file_in n) (names_in n)))
blocking_served n el ts has h =
    ap (map (λ i. never (name_at (names_in n).actions i))) h
    ∙ sym (by_places never (is_blocked (file_in n) el) (names_in n).actions 0 (targets (file_in n)) (names_in n).actions has.actions_long (whole_list (names_in n).actions))

-- ---- edges in order
module _ (n : Names) (el : Element) where
  -- of which each serves what the file says
  each_served : (k : ℕ) (es : List Edge) → HasActions n →
      flat_map (commands_of (file_in n) (names_in n) el) (numbered (λ i e. placed_with el i e ∷ []) k es) ≡ edge_commands n el es (map (edge_in (file_in n)) (numbered (λ i e. placed_with el i e ∷ []) k es))
  each_served k [] has = refl
  each_served k (e ∷ es) has = ap₂ {B = List prism.Command} (λ a b. a ++ b) (commands_served n el (placed_with el k e) has) (each_served (k + 1) es has)

  edges_join : (es fs : List Edge) (qs rs : List (List ℕ × Bool)) → length qs ≡ length es → edge_commands n el (es ++ fs) (qs ++ rs) ≡ edge_commands n el es qs ++ edge_commands n el fs rs
  edges_join [] fs [] rs h = refl
  edges_join [] fs (q ∷ qs) rs h = absurd (omega (arith, h))
  edges_join (e ∷ es) fs [] rs h = absurd (omega (arith, h))
  edges_join (e ∷ es) fs (q ∷ qs) rs h =
      ap (λ l. commands_by n el e q.0 q.1 ++ l) (edges_join es fs qs rs (omega (arith, h)))
      ∙ sym (append_assoc (commands_by n el e q.0 q.1) (edge_commands n el es qs) (edge_commands n el fs rs))

  -- ---- loops
  module _ (a : Automaton) where
    -- those with an action, which serve all the same
    loops_alike : (x : Named) (ts : List ℕ) (ls : List Location) →
        edge_commands n el (map (loop_at a x) ls) (replicate (length ls) (ts, false)) ≡ flat_map (λ l. target_commands n el (loop_at a x l) ts) ls
    loops_alike x ts [] = refl
    loops_alike x ts (l ∷ ls) = ap₂ {B = List prism.Command} (λ p q. p ++ q) (append-nil (target_commands n el (loop_at a x l) ts)) (loops_alike x ts ls)

    loops_each : (xs : List Named) (lists : List (Vec ℕ Global)) → length lists ≡ length xs → edge_commands n el (loops xs a) (flat_map (loops_served (length a.locations)) lists) ≡ loops_commands n el a xs lists
    loops_each [] [] h = refl
    loops_each [] (ts ∷ more) h = absurd (omega (arith, h))
    loops_each (x ∷ xs) [] h = absurd (omega (arith, h))
    loops_each (x ∷ xs) (ts ∷ more) h =
        edges_join (map (loop_at a x) a.locations) (loops xs a) (loops_served (length a.locations) ts) (flat_map (loops_served (length a.locations)) more)
        (length-replicate (length a.locations) (ts.items, false) ∙ sym (length-map a.locations (loop_at a x)))
        ∙ ap₂ {B = List prism.Command} (λ p q. p ++ q) (loops_alike x ts.items a.locations) (loops_each xs more (omega (arith, h)))

    -- loops beside these edges are those of the automaton
    pub loops_beside : (x : Named) (es : List Edge) (ts : List ℕ) (ls : List Location) → es ≡ filter (λ e. has_name x.name e.action) a.edges →
        flat_map (λ l. target_commands n el (loop_with x l.name (filter (λ e. is_called l.name.name e.location) es)) ts) ls ≡ flat_map (λ l. target_commands n el (loop_at a x l) ts) ls
    loops_beside x es ts [] h = refl
    loops_beside x es ts (l ∷ ls) h =
        ap₂ {B = List prism.Command} (λ p q. p ++ q)
        (ap (λ fs. target_commands n el (loop_with x l.name fs) ts) (ap (filter (λ e. is_called l.name.name e.location)) h ∙ chosen_twice x.name l.name.name a.edges))
        (loops_beside x es ts ls h)

  pub no_targets : (e : Location → Edge) (ls : List Location) → flat_map (λ l. target_commands n el (e l) []) ls ≡ []
  no_targets e [] = refl
  no_targets e (l ∷ ls) = no_targets e ls

pub no_items : {X : Type 0} (xs : List X) → true ≡ nat_eq (length xs) 0 → xs ≡ []
no_items [] h = refl
no_items (x ∷ xs) h =
    let some : nat_eq (length (x ∷ xs)) 0 ≡ false = ne_eqb (length (x ∷ xs)) 0 (λ e. omega (arith, e)) in
    let e : true ≡ false = h ∙ some in
    absurd cc

-- ---- the edges of an element: its own, and its loops
pub own_many : (el : CodeElement) (s : ElementServing) → shape_served s ≡ shape_of el.automaton → length s.edges.items ≡ length el.automaton.automaton.now.edges
own_many el s h = ap (λ (k : Shape). k.edges) h

pub loops_many : (el : CodeElement) (s : ElementServing) → shape_served s ≡ shape_of el.automaton → length s.loops.items ≡ length el.automaton.accepts.now
loops_many el s h = ap (λ (k : Shape). k.loops) h

pub all_commands : (n : Names) (el : CodeElement) (s : ElementServing) → HasActions n → shape_served s ≡ shape_of el.automaton → element_served s ≡ served_in (file_in n) (element_of el) →
    edge_commands n (element_of el) (map edge_of el.automaton.automaton.now.edges) (map edge_served s.edges.items)
    ++ loops_commands n (element_of el) (automaton_of el.automaton.automaton.now) el.automaton.accepts.now s.loops.items
    ≡ flat_map (commands_of (file_in n) (names_in n) (element_of el)) (placed_edges (element_of el))
all_commands n el s has shape h =
    let e = element_of el in
    let a = automaton_of el.automaton.automaton.now in
    let xs = el.automaton.accepts.now in
    let own = edge_commands n e a.edges (map edge_served s.edges.items) in
    let places : s.locations ≡ length a.locations = ap (λ (k : Shape). k.locations) shape ∙ sym (length-map el.automaton.automaton.now.locations location_of) in
    ap (λ l. own ++ l) (sym (loops_each n e a xs s.loops.items (loops_many el s shape)) ∙ ap (λ m. edge_commands n e (loops xs a) (flat_map (loops_served m) s.loops.items)) (sym places))
    ∙ sym (edges_join n e a.edges (loops xs a) (map edge_served s.edges.items) (flat_map (loops_served s.locations) s.loops.items)
    (length-map s.edges.items edge_served ∙ own_many el s shape ∙ sym (length-map el.automaton.automaton.now.edges edge_of)))
    ∙ ap₂ (edge_commands n e) (sym (edges_are xs a)) (ap (λ (k : Served). k.edges) h)
    ∙ sym (each_served n e 0 (edges_of e) has)

-- ---- what an element's edges serve
pub shape_at : (els : List CodeElement) (ss : List ElementServing) (i : ℕ) (el : CodeElement) (s : ElementServing) → map shape_served ss ≡ map shape_of (map (λ el. el.automaton) els) →
    i < length els → el ≡ get_or els i el → s ≡ get_or ss i s → shape_served s ≡ shape_of el.automaton
shape_at els ss i el s h lt at_el at_s =
    let autos : List ElementAutomaton = map (λ (el : CodeElement). el.automaton) els in
    let long : length autos ≡ length els = length-map els (λ (el : CodeElement). el.automaton) in
    let many : length ss ≡ length els = sym (length-map ss shape_served) ∙ ap length h ∙ length-map autos shape_of ∙ long in
    ap shape_served at_s
    ∙ sym (get_or-map shape_served ss i s (shape_served s) (omega (arith, lt, many)))
    ∙ ap (λ (l : List Shape). get_or l i (shape_served s)) h
    ∙ get_or-map shape_of autos i el.automaton (shape_served s) (omega (arith, lt, long))
    ∙ ap shape_of (get_or-map (λ (el : CodeElement). el.automaton) els i el el.automaton lt ∙ ap (λ (el : CodeElement). el.automaton) (sym at_el))

pub elements_many : (n : Names) (els : List CodeElement) (ss : List ElementServing) → map element_of els ≡ elements (file_in n) →
    map element_served ss ≡ map (served_in (file_in n)) (elements (file_in n)) → length ss ≡ length els
elements_many n els ss he hs =
    sym (length-map ss element_served)
    ∙ ap length hs
    ∙ length-map (elements (file_in n)) (served_in (file_in n))
    ∙ sym (ap length he)
    ∙ length-map els element_of

pub element_at : (n : Names) (els : List CodeElement) (ss : List ElementServing) (i : ℕ) (el : CodeElement) (s : ElementServing) → map element_of els ≡ elements (file_in n) →
    map element_served ss ≡ map (served_in (file_in n)) (elements (file_in n)) → i < length els → el ≡ get_or els i el → s ≡ get_or ss i s →
    element_served s ≡ served_in (file_in n) (element_of el)
element_at n els ss i el s he hs lt at_el at_s =
    let many = elements_many n els ss he hs in
    let long : length (elements (file_in n)) ≡ length els = sym (ap length he) ∙ length-map els element_of in
    ap element_served at_s
    ∙ sym (get_or-map element_served ss i s (element_served s) (omega (arith, lt, many)))
    ∙ ap (λ (l : List Served). get_or l i (element_served s)) hs
    ∙ get_or-map (served_in (file_in n)) (elements (file_in n)) i (element_of el) (element_served s) (omega (arith, lt, long))
    ∙ ap (served_in (file_in n))
    (ap (λ (l : List Element). get_or l i (element_of el)) (sym he)
    ∙ get_or-map element_of els i el (element_of el) lt
    ∙ ap element_of (sym at_el))
