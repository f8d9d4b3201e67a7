-- What each task makes of a file, and which files it refuses.
-- (This project's own rule.)
use Rattle.std.specs.Prelude.{ℕ, List, Result, Ok, Err}
use Rattle.bridge_io.specs.declared.reason.Fault.{Fault}
use Rattle.bridge_io.specs.declared.reason.Refused.{Refused}
use Rattle.bridge_io.specs.declared.reason.Refused.TheVariants as R
use Rattle.command_words.specs.declared.request.Task.{Task}
use Rattle.command_words.specs.declared.request.Task.TheVariants.{ToJani, ToPrism, ToPrismProps, CheckPrism, CheckJani}
use Rattle.model_files.specs.PrismFile.{HasNoFault, IsPrismFault}
use Rattle.model_files.specs.JaniFile.{HasNoJaniFault, IsJaniFault}
use Rattle.model_command.specs.Checking.{Checks, ChecksJani}
use Rattle.model_translation.specs.Translation.{Translates}
use Rattle.model_translation.specs.JaniProperties.{HasProperties, TranslatesProperties, IsPropertiesRefused}
use Rattle.model_command.specs.ToPrism.{HasTranslation, TranslatesToPrism, IsPrismRefused}

-- the text is what the task makes of the bytes
abbrev pub Makes : Task → List ℕ → List ℕ → Type 0
Makes ToJani bytes text = Translates bytes text
Makes ToPrism bytes text = TranslatesToPrism bytes text
Makes ToPrismProps bytes text = TranslatesProperties bytes text
Makes CheckPrism bytes text = Checks bytes text
Makes CheckJani bytes text = ChecksJani bytes text

-- the bytes that it is done for, up to their length
abbrev pub IsFit : Task → List ℕ → Type 0
IsFit ToJani bytes = HasNoFault bytes
IsFit ToPrism bytes = HasTranslation bytes
IsFit ToPrismProps bytes = HasProperties bytes
IsFit CheckPrism bytes = HasNoFault bytes
IsFit CheckJani bytes = HasNoJaniFault bytes

-- the least fault of all others
abbrev pub IsLeastFor : Task → List ℕ → Fault → Type 0
IsLeastFor ToJani bytes f = IsPrismFault bytes f
IsLeastFor ToPrism bytes f = IsPrismRefused bytes f
IsLeastFor ToPrismProps bytes f = IsPropertiesRefused bytes f
IsLeastFor CheckPrism bytes f = IsPrismFault bytes f
IsLeastFor CheckJani bytes f = IsJaniFault bytes f

-- The task was done, with this text, or the bytes are refused at their least fault; want of memory may come at any time.
abbrev pub Judged : Task → List ℕ → Result (List ℕ) Refused → Type 0
Judged task bytes (Ok text) = Makes task bytes text
Judged task bytes (Err (R.Memory e)) = Unit {0}
Judged task bytes (Err (R.At f)) = IsLeastFor task bytes f
