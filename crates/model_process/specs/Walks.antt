-- How a state is shown or a walk ends, once the file of its model is read: by the file's faults; else before its process is
-- started; else by what is shown of that. (The order and the texts are this project's own rule.)
use Rattle.std.specs.Prelude.{◌≡◌, ℕ, List, Some, None, Result, Ok, Err}
use Rattle.bridge_io.specs.declared.reason.Refused.{Refused}
use Rattle.bridge_io.specs.declared.reason.Refused.TheVariants as F
use Rattle.process_core.specs.Steps.{Process}
use Rattle.instance_start.specs.Description.{Description}
use Rattle.walk_texts.specs.declared.report.Report.{Report}
use Rattle.walk_texts.specs.declared.report.Report.TheVariants as R
use Rattle.walk_texts.specs.Jobs.{IsShown, IsWalkedAlong, IsWalkedBySeed}
use Rattle.command_words.specs.declared.request.Lang.{Lang}
use Rattle.command_words.specs.Words.{Job, showing, along, seeded, Walking, words_before}
use Rattle.model_process.specs.Models.{Describes, IsModelFault}
use Rattle.model_process.specs.Starts.{EndsUnstarted, IsStartable, process_for}
use Rattle.model_process.specs.declared.ending.Ending.{Ending}
use Rattle.model_process.specs.declared.ending.Ending.TheVariants.{Done, Stopped, Word, Excess}

-- what is shown of a process
abbrev pub IsReport : Process → Job → Report → Type 0
IsReport p (showing state) r = IsShown p state r
IsReport p (along from pairs) r = IsWalkedAlong p from pairs r
IsReport p (seeded from seed steps) r = IsWalkedBySeed p from seed steps r

-- the position of the word of the state that is shown or that a walk starts at; the walk's own word where no start is named
abbrev pub start_word : Job → ℕ
start_word (showing state) = 4
start_word (along None pairs) = 4
start_word (along (Some state) pairs) = 5
start_word (seeded None seed steps) = 4
start_word (seeded (Some state) seed steps) = 5

abbrev pub ending_of : Job → Report → Ending
ending_of job (R.Done text) = Done text
ending_of job (R.Stopped path line) = Stopped path line
ending_of job R.NoStart = Word (start_word job)
ending_of job (R.Excess path line) = Excess path line

-- how it ends on a model: before it is started; or what is shown of its process
pub data EndsOnModel (d : Description) (w : Walking) (e : Ending) : Type 0 where
  unstarted : EndsUnstarted d (words_before w) w.given e → EndsOnModel d w e
  shown : IsStartable d w.given → (r : Report) → IsReport (process_for d w.given) w.job r → e ≡ ending_of w.job r → EndsOnModel d w e

-- how it ends on the bytes of a file in some language
abbrev pub EndsOnBytes : Lang → Walking → List ℕ → Ending → Type 0
EndsOnBytes lang w bytes e = (d : Description) × Describes lang bytes d × EndsOnModel d w e

-- It ends so, or the bytes are refused at their least fault; want of memory may come at any time.
abbrev pub WalksOn : Lang → Walking → List ℕ → Result Ending Refused → Type 0
WalksOn lang w bytes (Ok e) = EndsOnBytes lang w bytes e
WalksOn lang w bytes (Err (F.Memory e)) = Unit {0}
WalksOn lang w bytes (Err (F.At f)) = IsModelFault lang bytes f
