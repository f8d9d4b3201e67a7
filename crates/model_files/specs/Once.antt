-- Bytes are one tree without fault, or have one least fault, and not both: statements, which are proved of a function of this crate.
use Rattle.std.specs.Prelude.{◌≡◌, ℕ, List}
use Rattle.bridge_io.specs.declared.reason.Fault.{Fault}
use Rattle.prism_tree.specs.Syntax as prism
use Rattle.jani_tree.specs.Syntax as jani
use Rattle.model_files.specs.PrismFile.{IsFaultless, IsPrismFault}
use Rattle.model_files.specs.JaniFile.{IsFaultlessJani, IsJaniFault}

-- ---- PRISM
abbrev pub OnePrismTree : Type 0
OnePrismTree = (bytes : List ℕ) (t u : prism.File) → IsFaultless bytes t → IsFaultless bytes u → t ≡ u

abbrev pub OnePrismFault : Type 0
OnePrismFault = (bytes : List ℕ) (f g : Fault) → IsPrismFault bytes f → IsPrismFault bytes g → f ≡ g

abbrev pub FaultyOrPrism : Type 0
FaultyOrPrism = (bytes : List ℕ) (f : Fault) (t : prism.File) → IsPrismFault bytes f → IsFaultless bytes t → ⊥

-- ---- JANI
abbrev pub OneJaniTree : Type 0
OneJaniTree = (bytes : List ℕ) (t u : jani.File) → IsFaultlessJani bytes t → IsFaultlessJani bytes u → t ≡ u

abbrev pub OneJaniFault : Type 0
OneJaniFault = (bytes : List ℕ) (f g : Fault) → IsJaniFault bytes f → IsJaniFault bytes g → f ≡ g

abbrev pub FaultyOrJani : Type 0
FaultyOrJani = (bytes : List ℕ) (f : Fault) (t : jani.File) → IsJaniFault bytes f → IsFaultlessJani bytes t → ⊥
