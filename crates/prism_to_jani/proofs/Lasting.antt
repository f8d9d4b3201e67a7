-- How many elements and variables a translated file has: a variable that lasts for each of the file, and none of an element.
use Rattle.std.specs.Prelude.{◌≡◌, ℕ, ◌+◌, List, [], ◌∷◌, ◌++◌, map, length, not, Option, Some, None, unwrap_or}
use Rattle.std.specs.List.{find, filter, AllByRecursion as Each}
use Rattle.std.proofs.Common.{refl, sym, ap, ap₂, subst, ◌∙◌, append-nil}
use Rattle.std.proofs.lemmas.List.{length-map}
use Rattle.basics.specs.Each.{each_found, each_map, each_then, map_each}
use Rattle.basics.specs.Lists.{empty_map}
use Rattle.basics.specs.Members.{filter-map}
use Rattle.basics.specs.Options.{IfAny}
use Rattle.bridge_io.specs.declared.reason.Named.{Named}
use Rattle.op_trees.specs.Names.{bare_name, is_called}
use Rattle.process_core.specs.Instance.{numbered}
use Rattle.prism_tree.specs.Syntax as prism
use Rattle.jani_tree.specs.Places.{bare_automaton, bare_file, bare_var}
use Rattle.jani_tree.specs.Syntax.{Automaton, File, Var, element_names, Element}
use Rattle.jani_meaning.specs.Elements.{automaton_called, is_lasting, lasting, nothing_called, Owned, owned_by, element_automaton}
use Rattle.name_table.specs.Asks.{new_names, variables}
use Rattle.jani_translation.specs.Parts.{kind_of}
use Rattle.jani_translation.specs.Translated.{translated}
use Rattle.jani_translation.proofs.Elements.{automata_one, IsOne}
use Rattle.jani_translation.proofs.OneForOne.{variable_kinds}
use Rattle.jani_tree.specs.Laws.{element_names-bare}
use Rattle.jani_meaning.specs.LoopLaws.{same_variables}

abbrev OwnsNone : Automaton → Type 0
OwnsNone a = a.variables ≡ []

abbrev not_transient : List Var → List Var
not_transient xs = filter (λ x. not x.transient) xs

-- ---- where no automaton has variables of its own
module _ (f : File) (own : Each OwnsNone f.automata) where
  called_owns : (n : Named) → OwnsNone (automaton_called f n)
  called_owns n = by_found (find (λ a. is_called n.name a.name) f.automata) (each_found OwnsNone (λ a. is_called n.name a.name) f.automata own)
    where
      by_found : (o : Option Automaton) → IfAny OwnsNone o → OwnsNone (unwrap_or o (nothing_called n))
      by_found None h = refl
      by_found (Some a) h = h

  none_owned : (i : ℕ) (es : List Element) → numbered (λ k a. owned_by (Some k) a.variables) i (map (element_automaton f) es) ≡ []
  none_owned i [] = refl
  none_owned i (e ∷ es) = ap₂ (λ x y. x ++ y) (ap (owned_by (Some i)) (same_variables e.enable (automaton_called f e.name) ∙ called_owns e.name)) (none_owned (i + 1) es)

  lasting_count : length (lasting f) ≡ length (not_transient f.variables)
  lasting_count =
      let global : Var → Owned = λ x. record { owner = None; var = x } in
      ap (λ r. length (filter is_lasting (owned_by None f.variables ++ r))) (none_owned 0 f.elements)
      ∙ ap (λ r. length (filter is_lasting r)) (append-nil (owned_by None f.variables))
      ∙ ap length (filter-map is_lasting global f.variables)
      ∙ length-map (not_transient f.variables) global

-- ---- a file that is a translation, places aside
translated_owns : (file : prism.File) → Each OwnsNone (translated file).automata
translated_owns file = each_then (IsOne (new_names file)) OwnsNone (λ a h. ap (λ (b : Automaton). b.variables) h.1) (translated file).automata (automata_one file)

bare_count : (xs : List Var) → length (not_transient (map bare_var xs)) ≡ length (not_transient xs)
bare_count xs = ap length (filter-map (λ x. not x.transient) bare_var xs) ∙ length-map (not_transient xs) bare_var

module _ (file : prism.File) (new : File) (same : bare_file new ≡ bare_file (translated file)) where
  owns : Each OwnsNone new.automata
  owns =
      each_then (λ a. map bare_var a.variables ≡ []) OwnsNone (λ a e. empty_map bare_var a.variables e) new.automata
      (map_each OwnsNone bare_automaton new.automata
      (subst (Each OwnsNone) (ap (λ (f : File). f.automata) (sym same)) (each_map OwnsNone OwnsNone bare_automaton (λ a e. ap (map bare_var) e) (translated file).automata (translated_owns file))))

  pub lasting_as_many : length (lasting new) ≡ length (variables file)
  lasting_as_many =
      lasting_count new owns
      ∙ sym (bare_count new.variables)
      ∙ ap (λ (f : File). length (not_transient f.variables)) same
      ∙ bare_count (translated file).variables
      ∙ sym (length-map (not_transient (translated file).variables) (λ x. x.kind))
      ∙ ap length (variable_kinds file)
      ∙ length-map (variables file) (λ x. kind_of (new_names file).value x.range)

  pub elements_as_many : length (element_names new) ≡ length (element_names (translated file))
  elements_as_many = sym (names_as_many new) ∙ ap (λ (f : File). length (element_names f)) same ∙ names_as_many (translated file)
    where
      names_as_many : (f : File) → length (element_names (bare_file f)) ≡ length (element_names f)
      names_as_many f = ap length (element_names-bare f) ∙ length-map (element_names f) bare_name
