-- What is written of a carried path, and the text that is written of the model's translation.
use Rattle.std.specs.Prelude.{ℕ, List}
use Rattle.command_words.specs.declared.request.Lang.{Lang}
use Rattle.command_words.specs.declared.request.Lang.TheVariants.{Prism, Jani}
use Rattle.model_carrying.specs.Across.{AreJudgedAlike, IsNeverRefused, IsTranslation, StartsAlways}
use Rattle.model_command.specs.CarriedTexts.{IsWritten}

is_translation : (lang : Lang) (model text : List ℕ) → IsWritten lang model text → IsTranslation lang model text
is_translation Prism model text (tree, new, h) = (tree, h.faultless, λ other s. (h.written.only other s).1)
is_translation Jani model text (tree, new, h) = (tree, h.translatable.faultless, λ other s. (h.written.only other s).1)

pub alike_written : AreJudgedAlike IsTranslation → AreJudgedAlike IsWritten
alike_written law c here there model text path written e f ask is = law c here there model text path written e f ask (is_translation c.lang model text is)

pub never_refused_written : IsNeverRefused IsTranslation → IsNeverRefused IsWritten
never_refused_written law c here there model text path written i f ask is = law c here there model text path written i f ask (is_translation c.lang model text is)

pub starts_written : StartsAlways IsTranslation → StartsAlways IsWritten
starts_written law c here there model text path written e ask is = law c here there model text path written e ask (is_translation c.lang model text is)
