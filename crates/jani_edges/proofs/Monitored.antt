-- A last member that stands only where something holds, and automata that go with names.
use Rattle.std.proofs.Common.{◌≡◌, List, [], ◌∷◌, ◌++◌, map, refl, sym, ap, ap₂, ◌∙◌, append-nil}
use Rattle.std.specs.Prelude.{Bool, true, false}
use Rattle.std.proofs.lemmas.List.{map-append}
use Rattle.process_core.specs.Instance.{only_if}
use Rattle.prism_tree.specs.Syntax.{Body}
use Rattle.jani_tree.specs.Syntax.{Write}
use Rattle.name_table.specs.Asks.{NewNames}
use Rattle.jani_translation.specs.Automata.{module_automata}

-- it was added
pub with_last : {A B : Type 0} (view : A → B) (old new : List A) (y : A) (l : List B) (x : B) (b c : Bool) → b ≡ true → b ≡ c →
    map view old ≡ l → view y ≡ x → new ≡ old ++ y ∷ [] → map view new ≡ l ++ only_if c x
with_last view old new y l x b c t e so_far here pushed =
    ap (map view) pushed
    ∙ map-append view old (y ∷ [])
    ∙ ap₂ (λ m z. m ++ z ∷ []) so_far here
    ∙ ap (λ k. l ++ only_if k x) (sym t ∙ e)

-- it was not
pub without_last : {A B : Type 0} (view : A → B) (old new : List A) (l : List B) (x : B) (b c : Bool) → b ≡ false → b ≡ c →
    map view old ≡ l → new ≡ old → map view new ≡ l ++ only_if c x
without_last view old new l x b c t e so_far same =
    ap (map view) same
    ∙ so_far
    ∙ sym (append-nil l)
    ∙ ap (λ k. l ++ only_if k x) (sym t ∙ e)

-- where no name is left there is no automaton
pub no_entries : (n : NewNames) (silently : Bool) (values : List Write) (ms : List Body) → module_automata n silently values ms [] ≡ []
no_entries n silently values [] = refl
no_entries n silently values (m ∷ ms) = refl
