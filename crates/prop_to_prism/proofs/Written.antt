-- The text that the code writes is the one of the translation.
use Rattle.std.specs.Prelude.{◌≡◌, ℕ, List}
use Rattle.std.proofs.Common.{sym, ap₂, subst, ◌∙◌}
use Rattle.jani_tree.specs.Syntax.{File}
use Rattle.jani_check.specs.Faults.{IsChecked}
use Rattle.name_table.specs.declared.entry.Entry.{Entry}
use Rattle.name_table.specs.Entries.{Ask}
use Rattle.name_table.specs.PrismAsks.{NewNames, names_by}
use Rattle.name_table.proofs.EntryLemmas.{first_alone}
use Rattle.prop_trees.specs.Trees.{JaniProperty}
use Rattle.jani_props.specs.Reading.{AreOfJani}
use Rattle.prop_trees.specs.Text.{properties_text}
use Rattle.prop_to_prism.specs.ToPrism.{new_names, reward_names, property_asks, all_entries, property_entries, to_prism}
use Rattle.prop_to_prism.specs.Code.{names_of, plain_new, all_written, text_by}
use Rattle.prop_to_prism.specs.Laws.{ReadsBack, TextReadBack, AreWrittenAs}
use Rattle.prop_to_prism.proofs.Entries.{constants_same, variables_same, labels_same, rewards_same, behind_same}
use Rattle.prop_to_prism.proofs.NewNames.{plain_same}
use Rattle.prop_to_prism.proofs.Texts.{as_translated}
use Rattle.prop_to_prism.proofs.Agreeing.{translated_agree}

pub text_is : (file : File) (ps : List JaniProperty) → text_by file (all_entries file ps) ps ≡ properties_text (reward_names file) (to_prism file ps)
text_is file ps =
    let more : List Ask = property_asks ps in
    let news : NewNames = names_by file (all_entries file ps) in
    ap₂ (λ (rs es : List Entry). all_written (plain_new file news) (names_of rs) ps es) (rewards_same file first_alone more) (behind_same file first_alone more)
    ∙ as_translated file (plain_new file news)
    (plain_same file (new_names file) news (sym (constants_same file first_alone more)) (sym (variables_same file first_alone more)) (sym (labels_same file first_alone more)))
    (reward_names file) ps (property_entries file ps)

pub is_written : TextReadBack → (file : File) → IsChecked file → (ps : List JaniProperty) → AreOfJani file ps → (text : List ℕ) → text ≡ text_by file (all_entries file ps) ps → AreWrittenAs file ps text
is_written law file checked ps are text e =
    let same = e ∙ text_is file ps in
    record { same = same; agree = translated_agree file checked ps are; back = subst (ReadsBack file ps) (sym same) (law file checked ps are) }
