-- The elements of a file without faults are automata of the file, without faults.
use Rattle.std.specs.Prelude.{◌≡◌, ℕ, suc, ◌+◌, List, [], ◌∷◌, map, not, Option, Some, None, unwrap_or, slice_get}
use Rattle.std.specs.Option.{option_map}
use Rattle.std.proofs.Common.{refl, sym, ap, subst, ◌∙◌, arith}
use Rattle.std.proofs.lemmas.Bool.{not-false}
use Rattle.std.proofs.lemmas.Option.{slice_get-map}
use Rattle.basics.specs.Each.{each_with, map_each}
use Rattle.bridge_io.specs.declared.reason.Named.{Named}
use Rattle.bridge_io.specs.declared.reason.Reason.TheVariants.{Unknown}
use Rattle.process_core.specs.Instance.{numbered}
use Rattle.jani_tree.specs.Syntax.{Automaton, File}
use Rattle.jani_tree.specs.Syntax.{Element as Part}
use Rattle.jani_tree.specs.Form.{ElementRead}
use Rattle.basics.specs.Lists.{IsNotEmpty as HasItems}
use Rattle.jani_meaning.specs.Loops.{with_loops}
use Rattle.jani_meaning.specs.LoopLaws.{same_variables}
use Rattle.prism_translation.proofs.Looped.{judged_looped}
use Rattle.std.specs.List.{AllByRecursion as OfAll}
use Rattle.basics.specs.Mapped.{any_mapped}
use Rattle.basics.specs.Options.{has_some}
use Rattle.name_rules.proofs.Plain.{no_fault}
use Rattle.jani_check.specs.Things.{is_called}
use Rattle.jani_check.specs.Things as checked
use Rattle.jani_check.specs.NameFaults.{is_among, automaton_names, unless_known}
use Rattle.jani_check.specs.Faults.{IsChecked}
use Rattle.jani_check.proofs.Known.{found as found-some}
use Rattle.jani_meaning.specs.Elements as jani
use Rattle.prism_translation.specs.Elements.{Element, elements}
use Rattle.prism_translation.proofs.Lists.{of_found, of_at, to_map}
use Rattle.prism_translation.proofs.Scopes.{vars_of, own_vars, NamesApart}
use Rattle.prism_translation.proofs.Clean.{IsJudgedIn, names_apart_outside, elements_known, judged_automata}

module _ (file : File) where
  -- An element stands at its number in the list of elements, and is the automaton of that name, with the loops of its actions.
  pub record IsElement (el : Element) : Type 0 where
    pub part : Part
    pub stands : slice_get file.elements el.number ≡ Some part
    pub own : Automaton
    pub found : checked.automaton_called file part.name.name ≡ Some own
    pub looped : el.automaton ≡ with_loops part.enable own

  abbrev pub element : ℕ → Automaton → List Element
  element k a = record { number = k; automaton = a } ∷ []

  -- the automaton of a known name, by both ways of finding it
  pub called_alike : (n : Named) (a : Automaton) → checked.automaton_called file n.name ≡ Some a → jani.automaton_called file n ≡ a
  called_alike n a e = ap (λ o. unwrap_or o (jani.nothing_called n)) e

  pub is_automaton : (n : Named) → unless_known (is_among (automaton_names file)) n ≡ [] → (a : Automaton) × (checked.automaton_called file n.name ≡ Some a)
  is_automaton n e =
      has_some (checked.automaton_called file n.name)
      (found-some (λ a. is_called n.name a.name) file.automata
      ∙ sym (any_mapped (λ a. a.name) (is_called n.name) (λ a. is_called n.name a.name) (λ a. refl) file.automata)
      ∙ not-false (is_among (automaton_names file) n.name) (no_fault (not (is_among (automaton_names file) n.name)) n.at Unknown e))

  are_elements : (k : ℕ) (es : List Part) → OfAll (λ e. unless_known (is_among (automaton_names file)) e.name ≡ []) es → ((i : ℕ) (e : Part) → slice_get es i ≡ Some e → slice_get file.elements (k + i) ≡ Some e) →
      OfAll IsElement (numbered element k (map (jani.element_automaton file) es))
  are_elements k [] h at = tt
  are_elements k (e ∷ es) h at =
      let a = is_automaton e.name h.0 in
      let here : k + 0 ≡ k = omega arith in (
        record {
          part = e;
          stands = ap (slice_get file.elements) (sym here) ∙ at 0 e refl;
          own = a.0;
          found = a.1;
          looped = ap (with_loops e.enable) (called_alike e.name a.0 a.1);
        },
        are_elements (k + 1) es h.1 (λ i d q. let on : (k + 1) + i ≡ k + suc i = omega arith in ap (slice_get file.elements) on ∙ at (suc i) d q),
      )

module _ (file : File) (c : IsChecked file) where
  pub parts_known : OfAll (λ e. unless_known (is_among (automaton_names file)) e.name ≡ []) file.elements
  parts_known = map_each (λ n. unless_known (is_among (automaton_names file)) n ≡ []) (λ e. e.name) file.elements (elements_known file c)

  pub elements_are : OfAll (IsElement file) (elements file)
  elements_are = are_elements file 0 file.elements parts_known (λ i e q. let on : 0 + i ≡ i = omega arith in ap (slice_get file.elements) on ∙ q)

  judged_called : (n : Named) → unless_known (is_among (automaton_names file)) n ≡ [] → IsJudgedIn file (jani.automaton_called file n).variables (jani.automaton_called file n)
  judged_called n e =
      let a = is_automaton file n e in
      subst (λ b. IsJudgedIn file b.variables b) (sym (called_alike file n a.0 a.1))
      (of_found (λ b. IsJudgedIn file b.variables b) (λ b. is_called n.name b.name) file.automata a.0 (judged_automata file c) a.1)

  judged_part : (e : Part) → unless_known (is_among (automaton_names file)) e.name ≡ [] → ElementRead HasItems e → IsJudgedIn file (jani.element_automaton file e).variables (jani.element_automaton file e)
  judged_part e k f =
      let a = jani.automaton_called file e.name in
      subst (λ vs. IsJudgedIn file vs (with_loops e.enable a)) (sym (same_variables e.enable a)) (judged_looped file a.variables a (judged_called e.name k) e.enable f.enable)

  pub judged_elements : OfAll (λ a. IsJudgedIn file a.variables a) (jani.elements file)
  judged_elements =
      to_map (λ a. IsJudgedIn file a.variables a) (jani.element_automaton file) file.elements
      (each_with (λ e. unless_known (is_among (automaton_names file)) e.name ≡ []) (ElementRead HasItems) (λ e. IsJudgedIn file (jani.element_automaton file e).variables (jani.element_automaton file e)) judged_part
      file.elements parts_known c.form.elements)

  pub judged_at : (k : ℕ) (a : Automaton) → slice_get (jani.elements file) k ≡ Some a → IsJudgedIn file a.variables a
  judged_at k a e = of_at (λ a. IsJudgedIn file a.variables a) (jani.elements file) k a judged_elements e

  -- names differ in each element, and outside of all
  pub names_at : (k : ℕ) → NamesApart file (own_vars file k)
  names_at k = by_place (slice_get (jani.elements file) k) refl
    where
      by_place : (o : Option Automaton) → slice_get (jani.elements file) k ≡ o → NamesApart file (own_vars file k)
      by_place None e = subst (NamesApart file) (sym (ap vars_of e)) (names_apart_outside file c)
      by_place (Some a) e = subst (NamesApart file) (sym (ap vars_of e)) (judged_at k a e).names

  module _ (el : Element) (is : IsElement file el) where
    pub placed_there : slice_get (jani.elements file) el.number ≡ Some el.automaton
    placed_there =
        slice_get-map (jani.element_automaton file) file.elements el.number ∙ ap (option_map (jani.element_automaton file)) is.stands
        ∙ ap Some (ap (with_loops is.part.enable) (called_alike file is.part.name is.own is.found) ∙ sym is.looped)

    pub own_are : own_vars file el.number ≡ el.automaton.variables
    own_are = ap vars_of placed_there

    pub judged_element : IsJudgedIn file (own_vars file el.number) el.automaton
    judged_element = subst (λ vs. IsJudgedIn file vs el.automaton) (sym own_are) (judged_at el.number el.automaton placed_there)
