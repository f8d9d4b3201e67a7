-- A JANI file without faults and the PRISM file that it is translated to mean the same process: the statements, which are
-- proved of functions of this crate. (This project's own rule.)
use Rattle.std.specs.Prelude.{◌≡◌}
use Rattle.process_core.specs.Process.{SameProcess}
use Rattle.process_core.specs.Ready.{Values}
use Rattle.prism_tree.specs.Syntax as prism
use Rattle.process_core.specs.Instance.{Valuation}
use Rattle.prism_flat.specs.Process as prism_process
use Rattle.prism_print.specs.Same.{bare_file}
use Rattle.jani_tree.specs.Syntax.{File}
use Rattle.jani_check.specs.Faults.{IsChecked}
use Rattle.jani_meaning.specs.Process as jani_process
use Rattle.name_table.specs.Correspond.{Correspond}
use Rattle.prism_translation.specs.SameMeaning.{placed, AreAlike}
use Rattle.prism_translation.specs.Sound.{FileIsSound, MarksAreSound, EdgesPayAlike}
use Rattle.prism_translation.specs.StateLaws.{state_of, old_label}
use Rattle.prism_translation.specs.Translated.{translated}

-- ---- what a file without faults meets
abbrev pub CheckedIsSound : Type 0
CheckedIsSound = (file : File) → IsChecked file → FileIsSound file

abbrev pub CheckedMarksAreSound : Type 0
CheckedMarksAreSound = (file : File) → IsChecked file → MarksAreSound file

-- whatever the state, all destinations of an edge assign the same rewards
abbrev pub CheckedPaysAlike : Type 0
CheckedPaysAlike = (file : File) → IsChecked file → (w : Valuation) (u : Values) → EdgesPayAlike file w u

-- valuations that give the constants the same values, by their places, are alike
abbrev pub CorrespondingAreAlike : Type 0
CorrespondingAreAlike = (file : File) → IsChecked file → (v w : Valuation) → Correspond (translated file) file v w → AreAlike file v w

-- ---- the whole
-- Under valuations that correspond, the instance faults are the same, each at the column that its column is; and, where there
-- are none, the states of the PRISM file go one to one onto those of the JANI file, and the same are initial, with the same
-- marks; and each choice occurs equally often, with the old name of its label, the same probabilities and rewards, and the
-- states that go with its targets, or the same kinds.
abbrev pub MeansTheSame : File → prism.File → Type 0
MeansTheSame old new = SameProcess (prism_process.model new) (jani_process.model old) (Correspond new old) (placed old) (old_label old) (state_of old)

-- A file without faults means the same as what it is translated to.
abbrev pub TranslationMeansTheSame : Type 0
TranslationMeansTheSame = (file : File) → IsChecked file → (new : prism.File) → new ≡ translated file → MeansTheSame file new

-- And so it does as any file that is the same but for places, since places mean nothing.
abbrev pub MeaningStays : Type 0
MeaningStays =
    (old : File) (new other : prism.File) → bare_file new ≡ bare_file other → prism_process.model new ≡ prism_process.model other → MeansTheSame old new →
    MeansTheSame old other
