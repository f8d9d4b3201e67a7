-- A request ends in one way. (This project's own rule.)
use Rattle.std.specs.Prelude.{◌≡◌, ◌≢◌, ℕ, List}
use Rattle.command_words.specs.Words.{Request}
use Rattle.model_command.specs.Outcome.{line_of}
use Rattle.model_command.specs.Run.{IsEndOn}
use Rattle.model_command.specs.declared.outcome.Outcome.{Outcome}
use Rattle.model_command.specs.declared.outcome.Outcome.TheVariants.{NoMemory}

-- On the same contents of its files a request ends with one outcome at most, but for want of memory, and one line tells it: so the status, what
-- is written on `out` and what is written on `err` are fixed.
abbrev pub OneEnding : Type 0
OneEnding = (request : Request) (contents : List (List ℕ)) (name other : List ℕ) (o p : Outcome) →
    IsEndOn request contents name o → IsEndOn request contents other p → o ≢ NoMemory → p ≢ NoMemory → (o ≡ p) × (line_of name o ≡ line_of other p)
