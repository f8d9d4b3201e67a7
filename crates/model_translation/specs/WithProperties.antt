-- What is written for a PRISM file with its properties: the text of a JANI file that means the same, with properties that agree (this
-- project's own rule).
use Rattle.std.specs.Prelude.{◌≡◌, ℕ, List, Result, Ok, Err}
use Rattle.std.specs.List.{AllByRecursion as Each}
use Rattle.basics.specs.Options.{IfAny}
use Rattle.bridge_io.specs.declared.reason.Fault.{Fault}
use Rattle.prism_tree.specs.Syntax as prism
use Rattle.prism_check.specs.Checked.{Checked}
use Rattle.jani_table.specs.Node.{Node}
use Rattle.jani_tree.specs.Syntax as jani
use Rattle.jani_tree.specs.Back.{SpellsFile}
use Rattle.jani_translation_laws.specs.SameMeaning.{MeansTheSame}
use Rattle.prism_to_jani.specs.Promise.{IsJaniOf}
use Rattle.prop_trees.specs.Trees.{PrismProperty}
use Rattle.prop_check.specs.Read.{AreProperties, IsLeastOf}
use Rattle.prop_to_jani.specs.ReadBack.{with_properties, IsReadWhole}
use Rattle.prop_to_jani.specs.Laws as properties
use Rattle.short_names.specs.ShortNames.{IsShort}
use Rattle.model_files.specs.PrismFile.{IsFaultless, IsPrismFault}
use Rattle.model_translation.specs.Translation.{IsText}
use Rattle.model_translation.specs.declared.properties.FilesRefused.{FilesRefused}
use Rattle.model_translation.specs.declared.properties.FilesRefused.TheVariants.{Memory, Model, Properties}

-- The names of properties, where they have some, are short, as those of a file that is read.
abbrev pub HaveShortNames : List PrismProperty → Type 0
HaveShortNames ps = Each (λ p. IfAny IsShort p.name) ps

-- The file is what the PRISM file is translated to, with the value of the translated properties, with which they agree.
abbrev pub IsFileWith : Checked → List PrismProperty → jani.File → Type 0
IsFileWith c ps full = (model : jani.File) × (value : Node) × (full ≡ with_properties model value) × IsJaniOf c.file model × properties.IsTranslated c ps value

-- The text spells the JANI file that the PRISM file is translated to, with this value for its properties, and no other. The value is that of the
-- translated properties, with which they agree; and the file with it means the same process too. In each tree that the text spells these are
-- the properties that are read, places aside, without a fault of shape, names or types.
pub record IsWrittenWith (c : Checked) (ps : List PrismProperty) (text : List ℕ) (model : jani.File) (value : Node) : Type 0 where
  pub written : IsText text (with_properties model value)
  pub translated : IsJaniOf c.file model
  pub properties : properties.IsTranslated c ps value
  pub same : MeansTheSame c.file (with_properties model value)
  pub read : (other : jani.File) → SpellsFile text other → IsReadWhole c ps other

-- Both files have no fault, and this is written for them.
pub record IsTranslationWith (model properties text : List ℕ) (c : Checked) (ps : List PrismProperty) : Type 0 where
  pub faultless : IsFaultless model c.file
  pub read : AreProperties properties c.file ps
  pub jani : jani.File
  pub value : Node
  pub written : IsWrittenWith c ps text jani value

abbrev pub TranslatesWith : List ℕ → List ℕ → List ℕ → Type 0
TranslatesWith model properties text = (c : Checked) × (ps : List PrismProperty) × IsTranslationWith model properties text c ps

-- Both files have no fault.
abbrev pub AreFaultless : List ℕ → List ℕ → Type 0
AreFaultless model properties = (tree : prism.File) × (ps : List PrismProperty) × IsFaultless model tree × AreProperties properties tree ps

-- The model has no fault, and this is the least fault of the properties.
abbrev pub IsPropertiesFault : List ℕ → List ℕ → Fault → Type 0
IsPropertiesFault model properties f = (tree : prism.File) × IsFaultless model tree × IsLeastOf properties tree f

-- It is written for the files, or the first that has faults is refused at its least one; want of memory may come at any time.
abbrev pub TranslatesFiles : List ℕ → List ℕ → Result (List ℕ) FilesRefused → Type 0
TranslatesFiles model properties (Ok text) = TranslatesWith model properties text
TranslatesFiles model properties (Err (Memory e)) = Unit {0}
TranslatesFiles model properties (Err (Model f)) = IsPrismFault model f
TranslatesFiles model properties (Err (Properties f)) = IsPropertiesFault model properties f
