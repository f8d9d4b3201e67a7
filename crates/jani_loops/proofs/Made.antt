-- Steps of making loops: guards joined one by one, edges chosen twice, and edges behind edges.
use Rattle.std.specs.Prelude.{◌≡◌, ℕ, List, [], ◌∷◌, ◌++◌, map, length, Bool, true, false, not, ◌&&◌, ◌||◌, Option, Some, None, nat_eq, cond, unwrap_or, Result, Ok, Err, IfOk, IsOkAnd, get_or, take, ◌<◌, ◌+◌}
use Rattle.std.specs.List.{filter, find, list_any, AllByRecursion as Each}
use Rattle.std.specs.Option.{option_map}
use Rattle.std.specs.Borrow.{Bor}
use Rattle.std.proofs.Common.{refl, sym, ap, ap₂, ◌∙◌, append-nil, append_assoc, arith, ne_eqb}
use Rattle.std.proofs.lemmas.List.{map-append}
use Rattle.gathering.proofs.Loops.{taken}
use Rattle.bridge_io.specs.declared.reason.Named.{Named}
use Rattle.op_trees.specs.Names.{is_called}
use Rattle.op_trees.specs.Tree.{One}
use Rattle.process_core.specs.Ready.{Name}
use Rattle.jani_tree.specs.JaniOp.TheVariants.{Not}
use Rattle.name_rules.specs.declared.map.NameMap.{NameMap}
use Rattle.name_rules.specs.Names.{under}
use Rattle.jani_tree.specs.declared.syntax.JaniAutomaton.{JaniAutomaton}
use Rattle.jani_tree.specs.declared.syntax.JaniEdge.{JaniEdge}
use Rattle.jani_tree.specs.declared.syntax.JaniElement.{JaniElement}
use Rattle.jani_tree.specs.Syntax.{Expression, Location, Edge, Automaton, Element, File, automaton_of, element_of}
use Rattle.jani_meaning.specs.Elements.{element_automaton, nothing_called}
use Rattle.jani_meaning.specs.Loops.{either, none_of, has_name, is_with, loop_at, loops, with_loops}
use Rattle.jani_loops.specs.Looped.{accepts, beside, element_under, lent_edge, loop_with, some_of}

-- ---- guards
-- those that were joined, and those that are left
abbrev pub joined_with : Option Expression → List Expression → Option Expression
joined_with None gs = some_of gs
joined_with (Some b) gs = Some (either b gs)

pub one_joined : (o : Option Expression) (g : Expression) (gs : List Expression) → joined_with (Some (beside o g)) gs ≡ joined_with o (g ∷ gs)
one_joined None g gs = refl
one_joined (Some b) g gs = refl

pub all_joined : (o : Option Expression) → joined_with o [] ≡ o
all_joined None = refl
all_joined (Some b) = refl

-- where the guard was made
pub joined_guard : {A B : Type 0} (t : A → Expression) (made : Result A B) (o : Option Expression) (r g : Expression) → IfOk made (λ x. t x ≡ g) → IsOkAnd made (λ x. r ≡ beside o (t x)) → r ≡ beside o g
joined_guard t (Ok x) o r g h k = k ∙ ap (beside o) h
joined_guard t (Err e) o r g h k = absurd k

pub none_is : (gs : List Expression) → none_of gs ≡ option_map (λ g. One 0 Not g) (some_of gs)
none_is [] = refl
none_is (g ∷ gs) = refl

-- ---- edges
pub chosen_twice : (x y : Name) (es : List Edge) → filter (λ e. is_called y e.location) (filter (λ e. has_name x e.action) es) ≡ filter (is_with x y) es
chosen_twice x y [] = refl
chosen_twice x y (e ∷ es) = by_tests (has_name x e.action) (is_called y e.location) (chosen_twice x y es)
  where
    by_tests : (a b : Bool) → filter (λ e. is_called y e.location) (filter (λ e. has_name x e.action) es) ≡ filter (is_with x y) es →
        filter (λ e. is_called y e.location) (cond a (e ∷ filter (λ e. has_name x e.action) es) (filter (λ e. has_name x e.action) es))
        ≡ cond (a && is_called y e.location) (e ∷ filter (is_with x y) es) (filter (is_with x y) es)
    by_tests false b h = h
    by_tests true b h = ap (λ l. cond (is_called y e.location) (e ∷ l) l) h

-- one more, behind what was there before
pub one_more : {A B C Y : Type 0} (view : Y → B) (f : C → B) (s : A → C) (xs : List A) (i : ℕ) (x : A) (first : List B) (old new : List Y) (y : Y) → i < length xs → x ≡ get_or xs i x →
    map view old ≡ first ++ map f (map s (take i xs)) → new ≡ old ++ y ∷ [] → view y ≡ f (s x) → map view new ≡ first ++ map f (map s (take (i + 1) xs))
one_more view f s xs i x first old new y h e so_far pushed here =
    ap (map view) pushed
    ∙ map-append view old (y ∷ [])
    ∙ ap₂ (λ a b. a ++ b ∷ []) so_far here
    ∙ append_assoc first (map f (map s (take i xs))) (f (s x) ∷ [])
    ∙ ap (λ l. first ++ l) (sym (ap (λ l. map f (map s l)) (taken xs i x h e) ∙ ap (map f) (map-append s (take i xs) (x ∷ [])) ∙ map-append f (map s (take i xs)) (s x ∷ [])))

-- the loops with an action at each location, where these are the edges by their locations
pub same_loops : (a : Automaton) (x : Named) (ls : List Location) (t : Name → List (Bor JaniEdge)) → ((n : Name) → map lent_edge (t n) ≡ filter (is_with x.name n) a.edges) →
    map (λ l. loop_with x l.name (map lent_edge (t l.name.name))) ls ≡ map (loop_at a x) ls
same_loops a x [] t h = refl
same_loops a x (l ∷ ls) t h = ap₂ (λ e es. e ∷ es) (ap (loop_with x l.name) (h l.name.name)) (same_loops a x ls t h)

pub behind : (xs : List Named) (a : Automaton) → record { name = a.name; variables = a.variables; locations = a.locations; initial = a.initial; edges = a.edges ++ loops xs a } ≡ with_loops xs a
behind [] a = ap (λ es. record { name = a.name; variables = a.variables; locations = a.locations; initial = a.initial; edges = es }) (append-nil a.edges)
behind (x ∷ xs) a = refl

-- ---- elements
no_list : (xs : List Named) → not (nat_eq (length xs) 0) ≡ false → xs ≡ []
no_list [] h = refl
no_list (x ∷ xs) h =
    let some : nat_eq (length (x ∷ xs)) 0 ≡ false = ne_eqb (length (x ∷ xs)) 0 (λ e. omega (arith, e)) in
    let e : true ≡ false = sym (ap not some) ∙ h in
    absurd cc

pub none_accepts : (es : List JaniElement) → list_any (λ e. accepts (element_of e)) es ≡ false → Each (λ e. e.enable ≡ []) (map element_of es)
none_accepts [] h = tt
none_accepts (e ∷ es) h = by_test (accepts (element_of e)) refl h (none_accepts es)
  where
    by_test : (b : Bool) → accepts (element_of e) ≡ b → (b || list_any (λ e. accepts (element_of e)) es) ≡ false →
        (list_any (λ e. accepts (element_of e)) es ≡ false → Each (λ e. e.enable ≡ []) (map element_of es)) → Each (λ e. e.enable ≡ []) (map element_of (e ∷ es))
    by_test true t h rest = let e : true ≡ false = h in absurd cc
    by_test false t h rest = (no_list (element_of e).enable t, rest h)

-- elements by a table of the automata
pub same_elements : (file : File) (t : NameMap (Bor JaniAutomaton)) → ((x : Name) → option_map (λ a. automaton_of a.now) (under t x) ≡ find (λ a. is_called x a.name) file.automata) →
    (es : List Element) → map (element_under t) es ≡ map (element_automaton file) es
same_elements file t h [] = refl
same_elements file t h (e ∷ es) = ap₂ (λ a l. a ∷ l) (ap (λ o. with_loops e.enable (unwrap_or o (nothing_called e.name))) (h e.name.name)) (same_elements file t h es)
