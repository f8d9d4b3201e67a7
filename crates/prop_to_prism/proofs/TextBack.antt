-- The text of translated properties is read back as these, against any tree of the translated model.
use Rattle.std.specs.Prelude.{◌≡◌, List, map}
use Rattle.std.proofs.Common.{ap, ◌∙◌}
use Rattle.process_core.specs.Product.{map-map}
use Rattle.prism_translation.specs.Translated.{translated}
use Rattle.prop_grammar.specs.Syntax.{WrittenProperty}
use Rattle.prop_grammar.specs.Faults.{Spells}
use Rattle.prop_reader.specs.Laws.{OneFile}
use Rattle.prop_trees.specs.Text.{properties_text}
use Rattle.prop_trees.specs.PrismFaults.{filed}
use Rattle.prop_trees.specs.Back.{TextSpells}
use Rattle.prop_to_prism.specs.ToPrism.{reward_names, property_entries, to_prism}
use Rattle.prop_to_prism.specs.Laws.{bare_property, TextReadBack}
use Rattle.prop_to_prism.proofs.Agreeing.{entries_each}
use Rattle.prop_to_prism.proofs.Judged.{all_right, all_none, all_alike, none_doubled, none_lost, no_name_faults, no_type_faults}
use Rattle.prop_to_prism.proofs.Limits.{of_limits}
use Rattle.prop_to_prism.proofs.Places.{structures_alike}
use Rattle.prop_to_prism.proofs.Printing.{all_filed, all_printable}
use Rattle.prop_to_prism.proofs.ReadBack.{titles, number_there, all_back, back_each}
use Rattle.prop_to_prism.proofs.Structures.{structures_named}

pub text_read_back : TextSpells → OneFile → TextReadBack
text_read_back spells one file checked ps are model same =
    let rewards = reward_names file in
    let es = property_entries file ps in
    let printable = all_printable file checked ps are in
    let s = spells rewards (to_prism file ps) (titles file) printable in
    let named = structures_alike model (translated file) same ∙ structures_named file in
    let meant = all_alike file checked model named ps es s.0 (entries_each file ps) are.form s.2 in
    let none = all_none file checked model same rewards ps es s.0 (all_right file checked ps are.sound) s.2 in
    let back = all_back model rewards (number_there file model named) (to_prism file ps) s.0 printable (back_each file checked ps es (all_filed file checked ps are.sound)) s.2 in
    let text = properties_text rewards (to_prism file ps) in
    let only : (others : List WrittenProperty) → Spells text others → others ≡ s.0 = λ others h. one text others s.0 h s.1 in
    let names = no_name_faults model s.0 (none_doubled file rewards ps s.0 s.2) (none_lost file checked model named ps s.0 meant) none in
    let types = no_type_faults model s.0 none in
    record {
      read = record {
        written = s.0;
        spells = s.1;
        only = only;
        names = names;
        types = types;
        are = back;
      };
      structures = meant;
      reads = λ qs a. ap (map bare_property) (a.are ∙ ap (map (filed model)) (only a.written a.spelled.spells)) ∙ map-map bare_property (filed model) s.0 ∙ back;
      limits = of_limits text s.0 s.1 only model names types;
    }
