-- What `carry-path` wrote with status 0, judged by `check-path` on the text that `to-jani` or `to-prism` writes of the model. (This project's own
-- rule.)
use Rattle.std.specs.Prelude.{ℕ, List}
use Rattle.command_words.specs.declared.request.Lang.{Lang}
use Rattle.command_words.specs.declared.request.Lang.TheVariants.{Prism, Jani}
use Rattle.command_words.specs.declared.request.Task.{Task}
use Rattle.command_words.specs.declared.request.Task.TheVariants.{ToJani, ToPrism}
use Rattle.model_command.specs.Tasks.{Makes}

-- the task that translates models of a language
abbrev pub translating : Lang → Task
translating Prism = ToJani
translating Jani = ToPrism

-- the text is what is written of the model then
abbrev pub IsWritten : Lang → List ℕ → List ℕ → Type 0
IsWritten lang model text = Makes (translating lang) model text
