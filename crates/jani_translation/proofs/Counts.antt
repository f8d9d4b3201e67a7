-- The elements of a translated file: their names, how many there are, and that they accept no action besides.
use Rattle.std.specs.Prelude.{◌≡◌, List, [], ◌∷◌, ◌++◌, map, length}
use Rattle.std.specs.List.{flat_map}
use Rattle.std.proofs.Common.{refl, ap, ap₂, ◌∙◌}
use Rattle.std.proofs.lemmas.List.{length-map}
use Rattle.bridge_io.specs.declared.reason.Named.{Named}
use Rattle.prism_tree.specs.Syntax as prism
use Rattle.jani_tree.specs.Syntax.{Automaton, Element, element_names, plain_element}
use Rattle.jani_tree.specs.Laws.{names_plain}
use Rattle.jani_translation.specs.Translated.{translated}

-- the names of elements that are made of automata
abbrev pub named : List Automaton → List Named
named as_ = map (λ e. e.name) (map (λ a. plain_element a.name) as_)

pub elements_named : (file : prism.File) → element_names (translated file) ≡ map (λ a. a.name) (translated file).automata
elements_named file = names_plain (λ a. a.name) (translated file).automata

pub element_total : (file : prism.File) → length (element_names (translated file)) ≡ length (translated file).automata
element_total file = ap length (elements_named file) ∙ length-map (translated file).automata (λ a. a.name)

-- nothing comes of elements without lists that comes of lists alone
pub plain_none : {B : Type 0} (f : Element → List B) → ((n : Named) → f (plain_element n) ≡ []) → (as_ : List Automaton) → flat_map f (map (λ a. plain_element a.name) as_) ≡ []
plain_none f none [] = refl
plain_none f none (a ∷ as_) = ap₂ (λ x y. x ++ y) (none a.name) (plain_none f none as_)
