-- The process that a PRISM file without fault describes keeps the laws of processes, and has walks that are read back.
use Rattle.std.proofs.Common.{◌≡◌, ℕ, List, [], map, None, refl, ap, subst, ◌∙◌}
use Rattle.prism_tree.specs.Syntax.{File}
use Rattle.prism_names.specs.Flat.{flat}
use Rattle.prism_names.specs.Places.{IsPlaceOrder}
use Rattle.prism_print.specs.Laws.{SpelledIsPrintable}
use Rattle.prism_check.specs.Scene.{columns_of}
use Rattle.prism_check.specs.FlatLaws.{columns-flat, is_written_out}
use Rattle.prism_check.specs.Checked.{Checked, IsChecked}
use Rattle.prism_check.specs.Faults.{faults}
use Rattle.prism_check.specs.Flattened.{IsFlat}
use Rattle.prism_check.specs.NameFaults.{declarations}
use Rattle.prism_check.proofs.CleanFile.{flat_is_checked}
use Rattle.prism_check.proofs.NamesJudged.{in_order}
use Rattle.prism_check.proofs.NoFaults.{no_faults, no_name_faults}
use Rattle.process_core.specs.Steps.{IsProcess}
use Rattle.process_core.specs.declared.data.Given.{Given}
use Rattle.instance_start.specs.Firsts.{BeginRight}
use Rattle.instance_start.specs.Given.{given_by, misfit}
use Rattle.prism_instance.specs.Described.{DescribedAlike, opened, prism_description}
use Rattle.prism_instance.specs.Lawful.{described_is}
use Rattle.prism_instance.proofs.Typed.{begin_right}
use Rattle.short_names.specs.Laws.{PrismNamesAreShort}
use Rattle.command_words.specs.Given.{Assignment}
use Rattle.model_files.specs.PrismFile.{IsFaultless}
use Rattle.model_process.specs.Constants.{givens}
use Rattle.model_process.specs.Starts.{IsStartable, process_for}
use Rattle.model_process.proofs.Constants.{none_wrong}
use Rattle.model_process.proofs.Placings.{all_in_turn}
use Rattle.model_process.proofs.PrismNames.{header_read, labels_read}
use Rattle.model_process.proofs.ReadableProcess.{IsReadableProcess, states_whole}

-- its formulas can be put in an order in which each names only earlier ones
in_some_order : (file : File) → faults file ≡ [] → (places : List ℕ) × IsPlaceOrder file places
in_some_order file sound =
    let clean = (no_faults file sound).names in
    let turns = all_in_turn (declarations file) (no_name_faults file clean).circles in
    (_, in_order file (declarations file) turns.0 refl (λ none. turns.1) clean)

module _ (printable : SpelledIsPrintable) (alike : DescribedAlike) (bytes : List ℕ) (tree : File) (ok : IsFaultless bytes tree) where
  -- written out, it is checked as well
  flat_is : IsFlat (flat tree)
  flat_is =
      let order = in_some_order tree ok.sound in
      let c : Checked = record { file = tree; order = order.0 } in
      let checked : IsChecked c = record { form = printable bytes tree ok.read.spells; sound = ok.sound; order = order.1 } in
      record { checked = flat_is_checked c checked; form = is_written_out tree }

  begins : (given : List Given) → misfit (map opened tree.constants) given ≡ None → BeginRight (columns_of tree (given_by given))
  begins given fits =
      subst BeginRight (columns-flat tree (given_by given))
      (begin_right (flat tree) flat_is given (ap (λ d. misfit d.constants given) (alike (flat tree) tree refl) ∙ fits))

  pub prism_lawful : (given : List Assignment) → IsStartable (prism_description tree) given → IsProcess (process_for (prism_description tree) given)
  prism_lawful given s = described_is tree (given_by (givens given)) (begins (givens given) (none_wrong (map opened tree.constants) given s.fits)) s.faultless

  pub prism_readable : PrismNamesAreShort → (given : List Assignment) → IsStartable (prism_description tree) given → IsReadableProcess (process_for (prism_description tree) given)
  prism_readable short given s =
      let v = given_by (givens given) in
      let form = printable bytes tree ok.read.spells in
      let names = short bytes tree ok.read.clean ok.read.spells in
      let is = prism_lawful given s in
      record {
        header = header_read tree form names v;
        whole = states_whole (columns_of tree v);
        initial = is.initial;
        proper = is.proper;
        labels = labels_read tree form names v;
      }
