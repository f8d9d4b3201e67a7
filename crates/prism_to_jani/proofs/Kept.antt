-- What is promised of a translation holds.
use Rattle.std.specs.Prelude.{◌≡◌, []}
use Rattle.std.proofs.Common.{refl, sym, ap₂, ◌∙◌}
use Rattle.prism_tree.specs.Syntax as prism
use Rattle.prism_names.specs.Flat.{flat}
use Rattle.prism_flat.specs.FlatLaws.{is_written_out}
use Rattle.prism_check.specs.Checked.{Checked, IsChecked}
use Rattle.prism_check.proofs.CleanFile.{flat_is_checked}
use Rattle.prism_check.specs.Flattened.{IsFlat}
use Rattle.name_rules.specs.Least.{or_else}
use Rattle.jani_check.specs.Faults.{faults}
use Rattle.jani_check.specs.Faults as judged
use Rattle.jani_check.proofs.Profiled.{places_aside, checked_is_writable}
use Rattle.jani_automata.specs.Translated.{translated}
use Rattle.jani_translation_laws.specs.SameMeaning.{MeansTheSame}
use Rattle.jani_translation_laws.proofs.Form.{translated_has_form}
use Rattle.jani_translation_laws.proofs.Composition.{no_name_faults}
use Rattle.jani_translation_laws.proofs.Whole.{no_type_fault, no_profile_fault}
use Rattle.jani_translation_laws.proofs.SameMeaning.{moved, translation_means_the_same}
use Rattle.prism_to_jani.specs.Promise.{IsJaniOf, PlacesAside}
use Rattle.prism_to_jani.proofs.Named.{are_named, named_aside}

-- a file that is written out, its translation
module _ (file : prism.File) (flat : IsFlat file) where
  no_fault : faults (translated file) ≡ []
  no_fault = ap₂ or_else (no_name_faults file flat) (ap₂ or_else (no_type_fault file flat) (no_profile_fault file flat))

  pub is_checked : judged.IsChecked (translated file)
  is_checked = record { clean = no_fault; form = translated_has_form file flat; once = tt }

module _ (c : Checked) (h : IsChecked c) where
  is_flat : IsFlat (flat c.file)
  is_flat = record { checked = flat_is_checked c h; form = is_written_out c.file }

  pub translation_is_checked : judged.IsChecked (translated (flat c.file))
  translation_is_checked = is_checked (flat c.file) is_flat

  same : MeansTheSame c.file (translated (flat c.file))
  same = translation_means_the_same c h (translated (flat c.file)) refl

  pub is_translated : IsJaniOf c.file (translated (flat c.file))
  is_translated = record {
    clean = translation_is_checked;
    writable = checked_is_writable (translated (flat c.file)) translation_is_checked;
    shape = refl;
    names = are_named c.file;
    states = same.process;
    same = same;
  }

pub aside : PlacesAside
aside old f g e h =
    let clean = places_aside f g e h.clean in
    let same : MeansTheSame old g = moved old f g e h.same in
    record { clean = clean; writable = checked_is_writable g clean; shape = sym e ∙ h.shape; names = named_aside old f g e h.names; states = same.process; same = same }
