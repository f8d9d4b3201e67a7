-- A translated file has no fault of types at all.
use Rattle.std.specs.Prelude.{◌≡◌, ℕ, ◌+◌, List, [], ◌∷◌, map, get_or}
use Rattle.std.specs.List.{flat_map, All}
use Rattle.std.proofs.Common.{refl}
use Rattle.std.proofs.lemmas.List.Elements.{All-head, All-tail}
use Rattle.basics.specs.Lists.{append_both}
use Rattle.prism_tree.specs.Syntax.{plain}
use Rattle.prism_names.specs.Names.{part_of}
use Rattle.prism_check.specs.Demands.{part_demands, outer_demands}
use Rattle.prism_check.specs.TypeFaults.{demand_faults, repeated_writes, module_faults, numbered_faults}
use Rattle.jani_tree.specs.Syntax.{Automaton, File}
use Rattle.jani_meaning.specs.Elements as jani
use Rattle.prism_translation.specs.Elements.{Element, elements}
use Rattle.prism_translation.specs.Names.{new_names}
use Rattle.prism_translation.specs.Modules.{module_of, commands}
use Rattle.prism_translation.specs.Translated.{translated}
use Rattle.prism_translation.proofs.Numbered.{numbered_from}
use Rattle.prism_translation_laws.specs.TypeLaws.{NoTypeFault}
use Rattle.prism_translation_laws.proofs.Initial.{outer_types_fit}
use Rattle.prism_translation_laws.proofs.Commands.{module_types_fit}
use Rattle.prism_translation_laws.proofs.Once.{written_once}

module _ (file : File) where
  abbrev IsClean : Element → Type 0
  IsClean el = module_faults (translated file) el.number (plain (module_of file (new_names file) el)) ≡ []

  modules_clean : (k : ℕ) (xs : List Automaton) → All IsClean (numbered_from k xs) →
      numbered_faults (translated file) k (map (λ el. plain (module_of file (new_names file) el)) (numbered_from k xs)) ≡ []
  modules_clean k [] h = refl
  modules_clean k (a ∷ xs) h =
      let el : Element = record { number = k; automaton = a } in
      append_both (module_faults (translated file) k (plain (module_of file (new_names file) el))) _ (All-head IsClean el (numbered_from (k + 1) xs) h)
      (modules_clean (k + 1) xs (All-tail IsClean el (numbered_from (k + 1) xs) h))

pub no_type_fault : (file : File) → NoTypeFault file
no_type_fault file checked shares =
    append_both (flat_map (demand_faults (translated file) 0) (outer_demands (translated file))) _ (outer_types_fit file checked)
    (modules_clean file 0 (jani.elements file)
    (λ i d l.
    let el = get_or (elements file) i d in
    append_both (flat_map (demand_faults (translated file) el.number) (part_demands (part_of (translated file) (plain (module_of file (new_names file) el))))) (flat_map repeated_writes (commands file (new_names file) el))
    (module_types_fit file checked shares i d l) (written_once file checked i d l)))
