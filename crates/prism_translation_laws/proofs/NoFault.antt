-- A translated file is written out, and has no fault of names.
use Rattle.std.specs.List.{flat_map, list_all}
use Rattle.std.specs.Prelude.{◌≡◌, ℕ, ◌+◌, List, [], ◌∷◌, ◌++◌, map, length, Bool, true, false, Option, Some, None, is_some, nat_eq, ◌<◌, if◌then◌else◌}
use Rattle.std.proofs.Common.{refl, ap, ◌∙◌, arith}
use Rattle.std.proofs.lemmas.Bool.{ne_eqb}
use Rattle.std.proofs.lemmas.List.{length-map}
use Rattle.std.proofs.lemmas.List.Elements.{All-nil}
use Rattle.basics.specs.Each.{each_empty, each_any}
use Rattle.basics.specs.Lists.{append_both, flat_map_both}
use Rattle.bridge_io.specs.declared.reason.Reason.TheVariants.{Nothing, TwoInits}
use Rattle.name_rules.specs.Least.{fault_if}
use Rattle.name_rules.proofs.Plain.{fault_none}
use Rattle.process_core.specs.Instance.{only_if}
use Rattle.prism_tree.specs.Syntax as prism
use Rattle.prism_tree.specs.Syntax.{plain}
use Rattle.prism_flat.specs.Kept.{is_plain}
use Rattle.prism_check.specs.NameFaults.{doubled_names, unknown_names, circles, copy_faults, no_module, own_start, own_starts, two_inits}
use Rattle.jani_tree.specs.Syntax.{File}
use Rattle.jani_meaning.specs.Elements as jani
use Rattle.jani_meaning.specs.Elements.{initial_number, structures}
use Rattle.jani_meaning.specs.Scene.{has_condition}
use Rattle.jani_meaning.specs.LoopLaws.{element_count}
use Rattle.prism_translation.specs.PrismAsks.{name_at, value_name}
use Rattle.prism_translation.specs.Elements.{Element, Lasting, at_home, elements, has_several, shared}
use Rattle.prism_translation.specs.Names.{new_names}
use Rattle.prism_translation.specs.Conditions.{condition_parts}
use Rattle.prism_translation.specs.Parts.{counted, first_of, instead, location_variable, scope_of, start_under, variable}
use Rattle.prism_translation.specs.Modules.{all_of, module_of}
use Rattle.prism_translation.specs.Marks.{structure}
use Rattle.prism_translation.specs.Translated.{translated}
use Rattle.prism_translation.proofs.Numbered.{element_length}
use Rattle.prism_translation.proofs.Clean.{has_element}
use Rattle.prism_translation_laws.specs.NameLaws.{TranslatedIsWrittenOut, TranslatedIsInOrder, HasName, RewardsAreNamed, TranslatedIsPrintable, NoDoubledNames, NoUnknownNames, NoCircles, SomeModule, NoNameFault}
use Rattle.prism_translation_laws.proofs.Lists.{each_numbered, each_only}
use Rattle.prism_translation_laws.proofs.Good.{good_printable, good_known}
use Rattle.prism_translation_laws.proofs.Translated.{translated_good}
use Rattle.prism_translation_laws.proofs.Doubled.{none_doubled}
use Rattle.prism_translation_laws.proofs.Circles.{none_circular_there}

-- ---- form
all_plain : (file : File) (els : List Element) → list_all is_plain (map (λ el. plain (module_of file (new_names file) el)) els) ≡ true
all_plain file [] = refl
all_plain file (el ∷ els) = all_plain file els

pub written_out : (file : File) → TranslatedIsWrittenOut file
written_out file = record { formulas = refl; modules = all_plain file (elements file) }

pub in_order : (file : File) → TranslatedIsInOrder file
in_order file = record { within = All-nil (λ i. i < 0); count = omega arith; listed = tt; covers = λ x b e. absurd cc }

pub rewards_named : (file : File) → RewardsAreNamed file
rewards_named file =
    let names = new_names file in
    each_numbered HasName (λ j o. structure file names j o (name_at names.rewards j) ∷ []) 0 (structures file)
    (λ j o e. ((instead o.var.name (name_at names.rewards (0 + j)), refl), tt))

pub printable : (file : File) → TranslatedIsPrintable file
printable file checked = good_printable (translated file) (translated_good file checked)

-- ---- names
pub doubled : (file : File) → NoDoubledNames file
doubled = none_doubled

pub unknown : (file : File) → NoUnknownNames file
unknown file checked = good_known (translated file) (translated_good file checked)

pub circular : (file : File) → NoCircles file
circular file checked = none_circular_there file checked

pub some_module : (file : File) → SomeModule file
some_module file checked =
    let m = length-map (elements file) (λ el. plain (module_of file (new_names file) el)) in
    let e = element_length 0 (jani.elements file) in
    let a = element_count file in
    let some = has_element file checked in
    fault_none (nat_eq (length (translated file).modules) 0) (translated file).end Nothing (ne_eqb (length (translated file).modules) 0 (λ h. let no : ⊥ = omega arith in no))

-- where the file has an initial condition, no variable has a first value of its own
module _ (file : File) where
  abbrev made : prism.File
  made = translated file

  no_starts : (b : Bool) → has_condition file ≡ b → two_inits made ≡ []
  no_starts true e =
      ap (λ c. if is_some (if c then Some (all_of (condition_parts file (new_names file))) else None) then flat_map own_start made.globals ++ flat_map own_starts made.modules else []) e
      ∙ append_both (flat_map own_start made.globals) (flat_map own_starts made.modules)
      (each_empty own_start made.globals (each_any (λ x. own_start x ≡ []) (variable file (new_names file)) variable_has_none (shared file)))
      (each_empty own_starts made.modules (each_any (λ m. own_starts m ≡ []) (λ el. plain (module_of file (new_names file) el)) module_has_none (elements file)))
    where
      none_under : (start : Option prism.Expression) (at : ℕ) → fault_if (is_some (start_under file (new_names file) (has_condition file) start)) at TwoInits ≡ []
      none_under start at = ap (λ c. fault_if (is_some (start_under file (new_names file) c start)) at TwoInits) e

      variable_has_none : (x : Lasting) → own_start (variable file (new_names file) x) ≡ []
      variable_has_none x = none_under (first_of file (new_names file) (value_name file (new_names file) (scope_of file (new_names file) x.owned)) x.owned.var) x.owned.var.name.at

      module_has_none : (el : Element) → flat_map own_start (module_of file (new_names file) el).vars ≡ []
      module_has_none el =
          flat_map_both own_start (only_if (has_several el) (location_variable file (new_names file) el)) _
          (each_empty own_start (only_if (has_several el) (location_variable file (new_names file) el))
          (each_only (λ x. own_start x ≡ []) (has_several el) (location_variable file (new_names file) el) (λ h. none_under (Some (counted (initial_number el.automaton))) 0)))
          (each_empty own_start (map (variable file (new_names file)) (at_home file el.number)) (each_any (λ x. own_start x ≡ []) (variable file (new_names file)) variable_has_none (at_home file el.number)))
  no_starts false e =
      ap (λ c. if is_some (if c then Some (all_of (condition_parts file (new_names file))) else None) then flat_map own_start made.globals ++ flat_map own_starts made.modules else []) e

pub no_name_fault : (file : File) → NoNameFault file
no_name_fault file checked =
    let t = translated file in
    append_both (doubled_names t) _ (doubled file)
    (append_both (unknown_names t) _ (unknown file checked)
    (append_both (circles t) _ (circular file checked)
    (append_both (flat_map (copy_faults t) t.modules) _
    (each_empty (copy_faults t) t.modules (each_any (λ m. copy_faults t m ≡ []) (λ el. plain (module_of file (new_names file) el)) (λ el. refl) (elements file)))
    (append_both (no_module t) _ (some_module file checked) (no_starts file (has_condition file) refl)))))
