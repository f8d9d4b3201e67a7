-- The names of a JANI translation are short, where those of the PRISM file are.
use Rattle.std.proofs.Common.{sym, arith}
use Rattle.prism_names.specs.Flat.{flat}
use Rattle.prism_flat.specs.FlatLaws.{is_written_out}
use Rattle.prism_check.specs.Checked.{Checked, IsChecked}
use Rattle.prism_check.specs.Flattened.{IsFlat}
use Rattle.prism_check.proofs.CleanFile.{flat_is_checked}
use Rattle.jani_tree.specs.Form.{IsShortName}
use Rattle.jani_tree.proofs.BareForm.{form_too}
use Rattle.jani_translation.specs.Translated.{translated}
use Rattle.short_names.specs.TranslationLaws.{TranslatedNamesAreShort}
use Rattle.short_names.proofs.Counted.{few_asks}
use Rattle.short_names.proofs.FlatNames.{flat_names}
use Rattle.short_names.proofs.Entries.{short_entries}
use Rattle.short_names.proofs.Translated.{named_as}

flat_is : (c : Checked) → IsChecked c → IsFlat (flat c.file)
flat_is c h = record { checked = flat_is_checked c h; form = is_written_out c.file }

pub translated_names : TranslatedNamesAreShort
translated_names c checked short model same held =
    let file = flat c.file in
    let es = short_entries file (few_asks file model same held) (flat_names c.file short) in
    form_too IsShortName (translated file) model (sym same)
    (named_as IsShortName file es (record { some = tt; short = omega arith }) (record { some = tt; short = omega arith }) (record { some = tt; short = omega arith }) (flat_is c checked))
