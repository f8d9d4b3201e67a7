-- What is promised of a translation holds.
use Rattle.std.specs.Prelude.{◌≡◌, [], Result, Ok, Err, IfOk, OnOk}
use Rattle.std.proofs.Common.{refl, sym, ◌∙◌}
use Rattle.bridge_io.specs.declared.reason.Refused.{Refused}
use Rattle.prism_tree.specs.Syntax.{file_of}
use Rattle.jani_tree.specs.Syntax.{File}
use Rattle.jani_check.specs.Faults.{IsChecked}
use Rattle.jani_check.proofs.Profiled.{first_none}
use Rattle.prism_check.specs.PlacesLaws.{PlacesMeanNothing, CleanAlike}
use Rattle.prism_translation_laws.specs.Lines.{lines}
use Rattle.prism_translation_laws.specs.Refused.{refused, shared_faults, size_faults}
use Rattle.prism_translation_laws.specs.Translated.{translated}
use Rattle.prism_translation_laws.specs.NameLaws.{TranslatedIsPrintable, NoNameFault}
use Rattle.prism_translation_laws.specs.TypeLaws.{NoTypeFault}
use Rattle.prism_translation_laws.specs.SameMeaning.{MeansTheSame, TranslationMeansTheSame, MeaningStays}
use Rattle.jani_to_prism.specs.declared.translation.CheckedPrismText.{CheckedPrismText}
use Rattle.jani_to_prism.specs.Translation.{IsTranslation}
use Rattle.jani_to_prism.specs.Promise.{IsPrismOf, PlacesAside}
use Rattle.jani_to_prism.proofs.Named.{are_named, named_aside}

pub is_translated : (file : File) → IsChecked file → refused file ≡ [] → TranslatedIsPrintable file → NoNameFault file → NoTypeFault file → TranslationMeansTheSame →
    IsPrismOf file (translated file)
is_translated file h none printable names types means =
    let same : MeansTheSame file (translated file) = means file h (translated file) refl in
    record {
      clean = record { printable = printable h; names = names h; types = types h (first_none (shared_faults file) (size_faults file) none) };
      shape = refl;
      names = are_named file;
      states = same.process;
      same = same;
    }

pub aside : PlacesMeanNothing → CleanAlike → MeaningStays → PlacesAside
aside models clean stays old f g e h =
    let same : MeansTheSame old g = stays old f g e (models f g e) h.same in
    record { clean = clean f g e h.clean; shape = sym e ∙ h.shape; names = named_aside old f g e h.names; states = same.process; same = same }

-- ---- what the call answers
module _ (file : File) where
  pub told : (r : Result CheckedPrismText Refused) → OnOk r (refused file ≡ []) → IfOk r (λ t. IsTranslation t file) → (refused file ≡ [] → IsPrismOf file (translated file)) → PlacesAside →
      IfOk r (λ t. (refused file ≡ []) × IsPrismOf file (file_of t.file))
  told (Ok t) none is h aside = (none, aside file (translated file) (file_of t.file) (sym is.file_is) (h none))
  told (Err e) none is h aside = tt

  pub told_lines : (r : Result CheckedPrismText Refused) → IfOk r (λ t. IsTranslation t file) → IfOk r (λ t. t.lines ≡ lines file)
  told_lines (Ok t) is = is.lines_are
  told_lines (Err e) is = tt
