-- What an element keeps of its automaton, and what its loops have if its own edges have it.
use Rattle.std.specs.Prelude.{◌≡◌, ℕ, List, [], ◌∷◌, ◌++◌, map, length, Bool, true, false, Option, Some, None, IfSome, if◌then◌else◌}
use Rattle.std.specs.List.{All, AllZip, filter, AllByRecursion as Each}
use Rattle.basics.specs.Mapped.{mapped}
use Rattle.std.proofs.Common.{refl, sym, ap, ap₂, ◌∙◌, append-nil}
use Rattle.std.proofs.lemmas.List.{length-map, map-append}
use Rattle.std.proofs.lemmas.List.Elements.{All-nil, All-head, All-tail, All-append, All-map, All-filter, All-weaker, All-same, filter-append}
use Rattle.bridge_io.specs.declared.reason.Named.{Named}
use Rattle.op_trees.specs.Seen.{Seen, one_node, two_node}
use Rattle.op_trees.specs.Tree.{Truth, One, Two}
use Rattle.process_core.specs.Instance.{Valuation}
use Rattle.process_core.specs.Ready.{Values, Name}
use Rattle.jani_tree.specs.JaniOp.TheVariants.{Or, Not}
use Rattle.jani_tree.specs.Syntax.{Expression, Location, Edge, Automaton, Element, File, element_names}
use Rattle.jani_meaning.specs.Elements.{automaton_called, element_automaton, elements, location_number}
use Rattle.jani_tree.specs.Operators.{jani_meaning}
use Rattle.jani_meaning.specs.Scene.{see}
use Rattle.jani_meaning.specs.Moment.{is_current, edge_at, element_at, guard_seen}
use Rattle.jani_meaning.specs.Loops.{or_true, either, none_of, is_with, loop_at, loops, with_loops}

-- ---- what stays
pub same_name : (xs : List Named) (a : Automaton) → (with_loops xs a).name ≡ a.name
same_name [] a = refl
same_name (x ∷ xs) a = refl

pub same_variables : (xs : List Named) (a : Automaton) → (with_loops xs a).variables ≡ a.variables
same_variables [] a = refl
same_variables (x ∷ xs) a = refl

pub same_locations : (xs : List Named) (a : Automaton) → (with_loops xs a).locations ≡ a.locations
same_locations [] a = refl
same_locations (x ∷ xs) a = refl

pub same_initial : (xs : List Named) (a : Automaton) → (with_loops xs a).initial ≡ a.initial
same_initial [] a = refl
same_initial (x ∷ xs) a = refl

pub edges_are : (xs : List Named) (a : Automaton) → (with_loops xs a).edges ≡ a.edges ++ loops xs a
edges_are [] a = sym (append-nil a.edges)
edges_are (x ∷ xs) a = refl

pub same_number : (xs : List Named) (a : Automaton) (y : Name) → location_number (with_loops xs a) y ≡ location_number a y
same_number [] a y = refl
same_number (x ∷ xs) a y = refl

-- ---- how many elements there are
pub element_count : (file : File) → length (elements file) ≡ length (element_names file)
element_count file = length-map file.elements (element_automaton file) ∙ sym (length-map file.elements (λ e. e.name))

-- Where no element accepts an action everywhere, the elements are their automata.
pub elements_plain : (file : File) → Each (λ e. e.enable ≡ []) file.elements → elements file ≡ map (automaton_called file) (element_names file)
elements_plain file h = each_plain file.elements h ∙ sym (mapped (λ e. e.name) (automaton_called file) (λ e. automaton_called file e.name) (λ e. refl) file.elements)
  where
    each_plain : (es : List Element) → Each (λ e. e.enable ≡ []) es → map (element_automaton file) es ≡ map (λ e. automaton_called file e.name) es
    each_plain [] h = refl
    each_plain (e ∷ es) h = ap₂ (λ a as_. a ∷ as_) (ap (λ xs. with_loops xs (automaton_called file e.name)) h.0) (each_plain es h.1)

-- ---- what holds of guards, of their disjunctions and of negations, holds of the guards of loops
module _ (Q : Expression → Type 0) (sure : Q (Truth 0 true)) (or : (g h : Expression) → Q g → Q h → Q (Two 0 Or g h)) (not : (g : Expression) → Q g → Q (One 0 Not g)) where
  pub either_has : (g : Expression) (gs : List Expression) → Q g → All Q gs → Q (either g gs)
  either_has g [] p ps = p
  either_has g (h ∷ hs) p ps = either_has (Two 0 Or g h) hs (or g h p (All-head Q h hs ps)) (All-tail Q h hs ps)

  none_has : (gs : List Expression) → All Q gs → IfSome (none_of gs) Q
  none_has [] ps = tt
  none_has (g ∷ gs) ps = not (either g gs) (either_has g gs (All-head Q g gs ps) (All-tail Q g gs ps))

  or_has : (o : Option Expression) → IfSome o Q → Q (or_true o)
  or_has None p = sure
  or_has (Some g) p = p

  pub guard_has : (a : Automaton) (x : Named) (l : Location) → All (λ e. IfSome e.guard Q) a.edges → IfSome (loop_at a x l).guard Q
  guard_has a x l ps =
      let these = filter (is_with x.name l.name.name) a.edges in
      none_has (map (λ e. or_true e.guard) these)
      (All-map Q (λ e. or_true e.guard) these
      (All-weaker (λ e. IfSome e.guard Q) (λ e. Q (or_true e.guard)) (λ e p. or_has e.guard p) these (All-filter (is_with x.name l.name.name) (λ e. IfSome e.guard Q) a.edges ps)))

-- ---- guards that are seen alike, under these names and under those
module _ (these those : Name → Seen) where
  abbrev pub SeenAlike : Expression → Expression → Type 0
  SeenAlike g h = see g these ≡ see h those

  either_alike : (g h : Expression) (gs hs : List Expression) → SeenAlike g h → AllZip SeenAlike gs hs → SeenAlike (either g gs) (either h hs)
  unfolding see
  either_alike g h [] [] e k = e
  either_alike g h [] (y ∷ ys) e k = absurd k
  either_alike g h (x ∷ xs) [] e k = absurd k
  either_alike g h (x ∷ xs) (y ∷ ys) e k = either_alike (Two 0 Or g x) (Two 0 Or h y) xs ys (ap₂ (two_node jani_meaning Or) e k.0) k.1

  pub none_alike : (gs hs : List Expression) → AllZip SeenAlike gs hs → guard_seen these (none_of gs) ≡ guard_seen those (none_of hs)
  unfolding see
  none_alike [] [] k = refl
  none_alike [] (y ∷ ys) k = absurd k
  none_alike (x ∷ xs) [] k = absurd k
  none_alike (x ∷ xs) (y ∷ ys) k = ap (one_node jani_meaning Not) (either_alike x y xs ys k.0 k.1)

  pub or_true_alike : (o p : Option Expression) → guard_seen these o ≡ guard_seen those p → see (or_true o) these ≡ see (or_true p) those
  unfolding see
  or_true_alike None None e = e
  or_true_alike None (Some h) e = e
  or_true_alike (Some g) None e = e
  or_true_alike (Some g) (Some h) e = e

-- ---- what holds of an automaton's own edges and of the loops holds of the element's edges
module _ (P : Edge → Type 0) (a : Automaton) where
  pub loops_have : (xs : List Named) → All (λ x. All (λ l. P (loop_at a x l)) a.locations) xs → All P (loops xs a)
  loops_have [] h = All-nil P
  loops_have (x ∷ xs) h =
      All-append P (map (loop_at a x) a.locations) (loops xs a) (All-map P (loop_at a x) a.locations (All-head (λ x. All (λ l. P (loop_at a x l)) a.locations) x xs h))
      (loops_have xs (All-tail (λ x. All (λ l. P (loop_at a x l)) a.locations) x xs h))

  pub edges_have : (xs : List Named) → All P a.edges → All (λ x. All (λ l. P (loop_at a x l)) a.locations) xs → All P (with_loops xs a).edges
  edges_have xs own h = All-same P (with_loops xs a).edges (a.edges ++ loops xs a) (edges_are xs a) (All-append P a.edges (loops xs a) own (loops_have xs h))

-- ---- an element at a state: its automaton's edges, and then the loops at the current location
module _ (file : File) (v : Valuation) (s : Values) (i : ℕ) where
  edge_same : (xs : List Named) (a : Automaton) (e : Edge) → edge_at file v s i (with_loops xs a) e ≡ edge_at file v s i a e
  edge_same [] a e = refl
  edge_same (x ∷ xs) a e = refl

  pub element_is : (xs : List Named) (a : Automaton) →
      element_at file v s i (with_loops xs a) ≡ element_at file v s i a ++ map (edge_at file v s i a) (filter (λ e. is_current s i a e.location.name) (loops xs a))
  element_is [] a = sym (append-nil (element_at file v s i a))
  element_is (x ∷ xs) a =
      ap (map (edge_at file v s i a)) (filter-append (λ e. is_current s i a e.location.name) a.edges (loops (x ∷ xs) a))
      ∙ map-append (edge_at file v s i a) (filter (λ e. is_current s i a e.location.name) a.edges) (filter (λ e. is_current s i a e.location.name) (loops (x ∷ xs) a))

  -- where one location is the current one, each action has one loop there
  module _ (a : Automaton) where
    abbrev here : Location → Bool
    here l = is_current s i a l.name.name

    kept_loops : (x : Named) (ls : List Location) → filter (λ e. is_current s i a e.location.name) (map (loop_at a x) ls) ≡ map (loop_at a x) (filter here ls)
    kept_loops x [] = refl
    kept_loops x (l ∷ ls) = by_test (here l) (kept_loops x ls)
      where
        by_test : (b : Bool) → filter (λ e. is_current s i a e.location.name) (map (loop_at a x) ls) ≡ map (loop_at a x) (filter here ls) →
            (if b then loop_at a x l ∷ filter (λ e. is_current s i a e.location.name) (map (loop_at a x) ls) else filter (λ e. is_current s i a e.location.name) (map (loop_at a x) ls))
            ≡ map (loop_at a x) (if b then l ∷ filter here ls else filter here ls)
        by_test true e = ap (λ r. loop_at a x l ∷ r) e
        by_test false e = e

    pub loops_here : (xs : List Named) (l : Location) → filter here a.locations ≡ l ∷ [] → filter (λ e. is_current s i a e.location.name) (loops xs a) ≡ map (λ x. loop_at a x l) xs
    loops_here [] l h = refl
    loops_here (x ∷ xs) l h =
        filter-append (λ e. is_current s i a e.location.name) (map (loop_at a x) a.locations) (loops xs a)
        ∙ ap₂ (λ p q. p ++ q) (kept_loops x a.locations ∙ ap (map (loop_at a x)) h) (loops_here xs l h)
