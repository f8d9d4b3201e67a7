-- The process that a file without fault describes, where it starts under given constants, keeps the laws of processes.
-- (The laws are those of Markov decision processes, as the PRISM manual has them in "The PRISM Language" and the jani-model specification in
-- "Models".)
use Rattle.std.specs.Prelude.{ℕ, List}
use Rattle.process_core.specs.Steps.{IsProcess}
use Rattle.instance_start.specs.Description.{Description}
use Rattle.command_words.specs.declared.request.Lang.{Lang}
use Rattle.command_words.specs.Given.{Assignment}
use Rattle.model_process.specs.Models.{Describes}
use Rattle.model_process.specs.Starts.{IsStartable, process_for}

abbrev pub DescribedIsProcess : Type 0
DescribedIsProcess = (lang : Lang) (bytes : List ℕ) (d : Description) (given : List Assignment) → Describes lang bytes d → IsStartable d given → IsProcess (process_for d given)
