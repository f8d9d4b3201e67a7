-- The automata of a translated file are found by their names: no two have one name.
use Rattle.std.specs.Prelude.{◌≡◌, List, [], ◌∷◌, cond, Some}
use Rattle.std.specs.List.{find, AllByRecursion as Each}
use Rattle.std.proofs.Common.{ap, ◌∙◌}
use Rattle.basics.specs.Texts.{bytes_eq-self}
use Rattle.prism_tree.specs.Syntax as prism
use Rattle.jani_tree.specs.Syntax.{Automaton}
use Rattle.jani_check.specs.Things.{automaton_called}
use Rattle.jani_check.specs.Things as things
use Rattle.jani_translation.specs.Translated.{translated}
use Rattle.jani_translation.proofs.Elements.{IsOther, AreLone, automata_lone}

abbrev FoundIn : List Automaton → Automaton → Type 0
FoundIn whole a = find (λ b. things.is_called a.name.name b.name) whole ≡ Some a

found_behind : (b : Automaton) (whole as_ : List Automaton) → Each (IsOther b) as_ → Each (FoundIn whole) as_ → Each (FoundIn (b ∷ whole)) as_
found_behind b whole [] h k = tt
found_behind b whole (a ∷ as_) h k = (
  ap (λ c. cond c (Some b) (find (λ b. things.is_called a.name.name b.name) whole)) h.0 ∙ k.0,
  found_behind b whole as_ h.1 k.1,
)

all_found : (as_ : List Automaton) → AreLone as_ → Each (FoundIn as_) as_
all_found [] h = tt
all_found (a ∷ as_) h = (
  ap (λ c. cond c (Some a) (find (λ b. things.is_called a.name.name b.name) as_)) (bytes_eq-self a.name.name),
  found_behind a as_ as_ h.0 (all_found as_ h.1),
)

pub automata_found : (file : prism.File) → Each (λ a. automaton_called (translated file) a.name.name ≡ Some a) (translated file).automata
automata_found file = all_found (translated file).automata (automata_lone file)
