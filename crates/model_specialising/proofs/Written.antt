-- What is written for a file.
use Rattle.std.specs.Prelude.{◌≡◌, ℕ, List, [], ◌∷◌, ◌++◌, map}
use Rattle.std.proofs.Common.{refl, sym, ap, ◌∙◌}
use Rattle.basics.specs.Mapped.{mapped}
use Rattle.process_core.specs.Instance.{Valuation}
use Rattle.constant_folding.specs.Constants.{described}
use Rattle.constant_folding.specs.Unfit.{Extends}
use Rattle.decimal_json.specs.Laws.{LineFeedBehind}
use Rattle.decimal_json.specs.Proper.{SpellsValue}
use Rattle.prism_tree.specs.Syntax as prism
use Rattle.prism_names.specs.Flat.{flat}
use Rattle.prism_print.specs.Same.{bare_file, SpellsFile}
use Rattle.prism_print.specs.Text.{file_text}
use Rattle.prism_flat.specs.Kept.{SameMeaning}
use Rattle.prism_flat.specs.FlatLaws.{same_meaning}
use Rattle.prism_check.specs.Clean.{IsClean}
use Rattle.prism_check.specs.PlacesLaws.{PlacesBoundNothing}
use Rattle.prism_instance.specs.Described.{DescribedAlike, opened, prism_description}
use Rattle.jani_tree.specs.Syntax as jani
use Rattle.jani_tree.specs.Text.{SpellsNode, jani_text}
use Rattle.jani_tree.specs.Back.{IsWritable, SpellsOnly, TextSpells}
use Rattle.jani_tree.specs.Canonical.{file_node}
use Rattle.jani_tree.specs.Form.{FileShort}
use Rattle.jani_check.specs.Faults.{IsChecked}
use Rattle.jani_instance.specs.Knowing as knowing
use Rattle.jani_instance.specs.Described.{jani_description}
use Rattle.specialise_prism.specs.Specialised as to_prism
use Rattle.specialise_prism.specs.SameMeaning.{GivenAreDefined, SameMeaningAt}
use Rattle.specialise_jani.specs.Specialised as to_jani
use Rattle.specialise_jani.specs.SameMeaning as jani_meaning
use Rattle.model_files.specs.ReadAgain.{IsShaped, JaniReadAgain, PrismReadAgain}
use Rattle.model_files.proofs.ReadAgain.{shaped}
use Rattle.model_specialising.specs.Specialised.{SpecialisesPrism, SpecialisesJani}
use Rattle.model_specialising.proofs.Places.{specialised_aside}

-- ---- PRISM
pub prism_constants : DescribedAlike → (f tree : prism.File) → bare_file f ≡ bare_file (flat tree) → map described (to_prism.any_constants f) ≡ (prism_description tree).constants
prism_constants alike f tree same = mapped to_prism.any_const described opened (λ c. refl) f.constants ∙ ap (λ d. d.constants) (alike f tree same)

-- what means the same as a file that means the same as another means the same as that one
same_behind : (old mid new : prism.File) (v : Valuation) → SameMeaning old mid → SameMeaningAt mid new v → SameMeaningAt old new v
same_behind old mid new v h k = record {
  faults = k.faults ∙ h.faults v;
  wide_instance = k.wide_instance ∙ h.wide_instance v;
  columns = k.columns ∙ h.columns v;
  states = λ s. k.states s ∙ h.states v s;
  initial = λ s. k.initial s ∙ h.initial v s;
  choices = λ s. k.choices s ∙ h.choices v s;
  marks = λ s. k.marks s ∙ h.marks v s;
  wide_marks = λ s. k.wide_marks s ∙ h.wide_marks v s;
  excess = λ s. k.excess s ∙ h.excess v s;
}

pub prism_written : PlacesBoundNothing → PrismReadAgain → GivenAreDefined → (f tree new : prism.File) (given : Valuation) (text : List ℕ) → bare_file f ≡ bare_file (flat tree) → new ≡ to_prism.specialised f given → IsClean new →
    ((v : Valuation) → Extends given v → SameMeaningAt f new v) → text ≡ file_text new → SpellsFile text new → SpecialisesPrism tree given text
prism_written aside again defined f tree new given text same is clean means t spells = (
  new,
  record {
    text_is = t;
    spells = spells;
    shape = ap bare_file is ∙ specialised_aside f (flat tree) given same;
    clean = clean;
    limits = again text new spells clean;
    same = means_tree;
    defined = λ v gives. defined tree new given v gives (means_tree v gives);
  },
)
  where
    means_tree : (v : Valuation) → Extends given v → SameMeaningAt tree new v
    means_tree v gives = same_behind tree (flat tree) new v (same_meaning tree) (same_behind (flat tree) f new v (aside (flat tree) f (sym same)) (means v gives))

-- ---- JANI
pub jani_constants : (tree : jani.File) → map described (to_jani.any_constants tree) ≡ (jani_description tree).constants
jani_constants tree = mapped to_jani.any_const described knowing.opened (λ c. refl) tree.constants

pub jani_written : JaniReadAgain → jani_meaning.GivenAreDefined → (tree new : jani.File) (given : Valuation) (text : List ℕ) → new ≡ to_jani.specialised tree given → IsChecked new →
    ((v : Valuation) → Extends given v → jani_meaning.SameMeaningAt tree new v) → text ≡ jani_text new ++ 10 ∷ [] → SpellsOnly text new → IsShaped text → SpecialisesJani tree given text
jani_written again defined tree new given text is clean means t spells shaped = (
  new,
  record {
    text_is = t;
    spells = spells;
    shaped = shaped;
    shape = is;
    clean = clean;
    limits = again text new spells shaped clean;
    same = means;
    defined = λ v gives. defined tree new given v gives (means v gives);
  },
)

-- the text with its line feed spells what it spells without, and has no fault of shape where the names are short
pub jani_spells : (f : jani.File) (text : List ℕ) → TextSpells → LineFeedBehind → IsWritable f → FileShort f → SpellsNode text (file_node f) → SpellsOnly (text ++ 10 ∷ []) f × IsShaped (text ++ 10 ∷ [])
jani_spells f text spells behind ready names s =
    let there : SpellsValue (text ++ 10 ∷ []) s.0 = (s.2.0, s.2.1, behind text s.2.0 s.2.1 s.2.2, s.2.3) in
    (spells f s.0 (text ++ 10 ∷ []) ready.types s.1 there, shaped f s.0 (text ++ 10 ∷ []) ready names s.1 there)
