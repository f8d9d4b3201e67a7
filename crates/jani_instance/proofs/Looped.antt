-- The elements of a file as the program has them: by a table of the automata, and with loops from a list.
use Rattle.std.specs.Prelude.{◌≡◌, ℕ, zero, suc, ◌<◌, List, [], ◌∷◌, map, length, get_or, unwrap_or}
use Rattle.std.specs.Borrow.{Bor}
use Rattle.std.specs.List.{AllByRecursion as Each}
use Rattle.std.proofs.Common.{refl, sym, ap, ap₂, ◌∙◌, arith}
use Rattle.std.proofs.lemmas.List.{length-map}
use Rattle.bridge_io.specs.declared.reason.Named.{Named}
use Rattle.name_rules.specs.declared.map.NameMap.{NameMap}
use Rattle.name_rules.specs.Names.{Name}
use Rattle.jani_tree.specs.declared.syntax.JaniAutomaton.{JaniAutomaton}
use Rattle.jani_tree.specs.declared.syntax.JaniElement.{JaniElement}
use Rattle.jani_tree.specs.Syntax.{Automaton, File, element_of}
use Rattle.jani_check.specs.Participants.{automaton_in, automaton_under}
use Rattle.jani_meaning.specs.Loops.{with_loops}
use Rattle.jani_meaning.specs.Elements.{automaton_called, element_automaton, nothing_called}
use Rattle.jani_instance.specs.Parts.{automaton_by, looped_by, with_edges}

-- ---- by a table
pub by_table : (file : File) (t : NameMap (Bor JaniAutomaton)) → ((x : Name) → automaton_under t x ≡ automaton_in file.automata x) → (n : Named) → automaton_by t n ≡ automaton_called file n
by_table file t h n = ap (λ o. unwrap_or o (nothing_called n)) (h n.name)

pub all_looped : (file : File) (t : NameMap (Bor JaniAutomaton)) → ((x : Name) → automaton_under t x ≡ automaton_in file.automata x) → (es : List JaniElement) →
    map (λ e. looped_by t e) es ≡ map (element_automaton file) (map element_of es)
all_looped file t h [] = refl
all_looped file t h (e ∷ es) = ap₂ (λ a l. a ∷ l) (ap (with_loops e.enable) (by_table file t h e.name)) (all_looped file t h es)

pub all_plain : (file : File) (t : NameMap (Bor JaniAutomaton)) → ((x : Name) → automaton_under t x ≡ automaton_in file.automata x) → (es : List JaniElement) →
    Each (λ e. e.enable ≡ []) (map element_of es) → map (λ e. automaton_by t e.name) es ≡ map (element_automaton file) (map element_of es)
all_plain file t h [] none = refl
all_plain file t h (e ∷ es) none =
    ap₂ (λ a l. a ∷ l) (by_table file t h e.name ∙ sym (ap (λ xs. with_loops xs (automaton_called file e.name)) none.0)) (all_plain file t h es none.1)

-- ---- from a list
-- members in one place of lists that are seen the same
pub at_both : {A B C : Type 0} (f : A → C) (g : B → C) (xs : List A) (ys : List B) (i : ℕ) (x : A) (y : B) → map f xs ≡ map g ys → i < length xs → x ≡ get_or xs i x → y ≡ get_or ys i y → f x ≡ g y
at_both f g [] ys i x y e h hx hy = absurd (omega (arith, h))
at_both f g (a ∷ xs) [] i x y e h hx hy = absurd cc
at_both f g (a ∷ xs) (b ∷ ys) zero x y e h hx hy = let same : f a ≡ g b = cc in ap f hx ∙ same ∙ sym (ap g hy)
at_both f g (a ∷ xs) (b ∷ ys) (suc i) x y e h hx hy = let rest : map f xs ≡ map g ys = cc in at_both f g xs ys i x y rest (omega (arith, h)) hx hy

pub as_long : {A B C : Type 0} (f : A → C) (g : B → C) (xs : List A) (ys : List B) → map f xs ≡ map g ys → length xs ≡ length ys
as_long f g xs ys e = sym (length-map xs f) ∙ ap length e ∙ length-map ys g

pub edges_put : (xs : List Named) (a b : Automaton) → b ≡ with_loops xs a → with_edges a b.edges ≡ with_loops xs a
edges_put [] a b e = ap (λ c. with_edges a c.edges) e
edges_put (x ∷ xs) a b e = ap (λ c. with_edges a c.edges) e
