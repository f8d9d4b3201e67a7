-- The statements that `translate` and `carry_map` go by, from what they say and back to it.
use Rattle.std.specs.Prelude.{◌≡◌, List, length, map}
use Rattle.std.specs.Borrow.{Bor}
use Rattle.std.proofs.Common.{◌∙◌, ap, ap₂, sym}
use Rattle.std.proofs.lemmas.List.{length-map}
use Rattle.process_core.specs.Ready.{Name}
use Rattle.prism_tree.specs.declared.syntax.PrismFile.{PrismFile}
use Rattle.prism_tree.specs.declared.syntax.PrismVar.{PrismVar}
use Rattle.prism_tree.specs.Syntax as prism
use Rattle.jani_tree.specs.Places.{bare_file}
use Rattle.jani_tree.specs.Syntax.{File}
use Rattle.name_table.specs.declared.entry.Entry.{Entry}
use Rattle.jani_automata.specs.Names.{Names}
use Rattle.name_table.specs.Asks.{variables, actions, entries, names_by, NewNames, new_names}
use Rattle.jani_automata.specs.Translated.{translated_by}
use Rattle.jani_automata.specs.Code.{names_in}
use Rattle.prism_to_jani.specs.Maps.{pair_by}
use Rattle.prism_to_jani.specs.Statements.{AreVariables, AreActions, AreEntries, AreNames, IsTranslation}

-- ---- variables and actions; those of a vector are those of its slice
pub are_variables : (xs : List (Bor PrismVar)) (f : PrismFile) → map (λ x. prism.var_of x.now) xs ≡ variables (prism.file_of f) → AreVariables xs f
unfolding AreVariables
are_variables xs f e = e

pub variables_are : (ys xs : List (Bor PrismVar)) (f : PrismFile) → ys ≡ xs → AreVariables xs f → map (λ x. prism.var_of x.now) ys ≡ variables (prism.file_of f)
unfolding AreVariables
variables_are ys xs f a e = ap (map (λ (x : Bor PrismVar). prism.var_of x.now)) a ∙ e

pub are_actions : (xs : List (Bor Name)) (f : PrismFile) → map (λ x. x.now) xs ≡ actions (prism.file_of f) → AreActions xs f
unfolding AreActions
are_actions xs f e = e

pub actions_are : (ys xs : List (Bor Name)) (f : PrismFile) → ys ≡ xs → AreActions xs f → map (λ x. x.now) ys ≡ actions (prism.file_of f)
unfolding AreActions
actions_are ys xs f a e = ap (map (λ (x : Bor Name). x.now)) a ∙ e

-- ---- entries
pub are_entries : (es : List Entry) (f : PrismFile) → es ≡ entries (prism.file_of f) → AreEntries es f
unfolding AreEntries
are_entries es f e = e

pub same_entries : (ds es : List Entry) (f : PrismFile) → ds ≡ es → AreEntries es f → AreEntries ds f
unfolding AreEntries
same_entries ds es f a e = a ∙ e

-- ---- new names: those that the entries of the file give
pub are_names : (n : Names) (es : List Entry) (f : PrismFile) → names_in n ≡ names_by (prism.file_of f) es → AreEntries es f → AreNames n f
unfolding AreEntries AreNames
are_names n es f a e = a ∙ ap (names_by (prism.file_of f)) e

-- ---- the translation: that by the new names of the file
pub is_translation : (r : File) (n : Names) (f : PrismFile) → r ≡ translated_by (names_in n) (prism.file_of f) → AreNames n f → IsTranslation r (prism.file_of f)
unfolding AreNames IsTranslation
is_translation r n f a e = ap bare_file (a ∙ ap (λ k. translated_by k (prism.file_of f)) e)

-- ---- the map: how many variables there are, and the pairs of the actions
pub variable_count : (xs : List (Bor PrismVar)) (f : PrismFile) → AreVariables xs f → length xs ≡ length (variables (prism.file_of f))
unfolding AreVariables
variable_count xs f e = sym (length-map xs (λ (x : Bor PrismVar). prism.var_of x.now)) ∙ ap length e

pub pairs_are : (n : Names) (ys xs : List (Bor Name)) (f : PrismFile) → ys ≡ xs → AreActions xs f → AreNames n f →
    map (pair_by (names_in n).action) (map (λ x. x.now) ys) ≡ map (pair_by (new_names (prism.file_of f)).action) (actions (prism.file_of f))
unfolding AreActions AreNames
pairs_are n ys xs f a e h = ap₂ (λ (k : NewNames) zs. map (pair_by k.action) zs) h (ap (map (λ (x : Bor Name). x.now)) a ∙ e)
