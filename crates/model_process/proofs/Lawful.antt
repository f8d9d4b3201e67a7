-- The process that a file without fault describes keeps the laws of processes.
use Rattle.std.proofs.Common.{sym, subst}
use Rattle.process_core.specs.Steps.{IsProcess}
use Rattle.prism_print.specs.Laws.{SpelledIsPrintable}
use Rattle.prism_instance.specs.Described.{DescribedAlike}
use Rattle.short_names.specs.Laws.{JaniNamesAreShort}
use Rattle.command_words.specs.declared.request.Lang.TheVariants.{Prism, Jani}
use Rattle.model_process.specs.Lawful.{DescribedIsProcess}
use Rattle.model_process.specs.Starts.{IsStartable, process_for}
use Rattle.model_process.proofs.JaniProcess.{jani_lawful}
use Rattle.model_process.proofs.PrismProcess.{prism_lawful}

pub described_is_process : SpelledIsPrintable → DescribedAlike → JaniNamesAreShort → DescribedIsProcess
described_is_process printable alike short Prism bytes d given (tree, ok, e) s =
    subst (λ x. IsProcess (process_for x given)) (sym e) (prism_lawful printable alike bytes tree ok given (subst (λ x. IsStartable x given) e s))
described_is_process printable alike short Jani bytes d given (tree, ok, e) s =
    subst (λ x. IsProcess (process_for x given)) (sym e) (jani_lawful short bytes tree ok given (subst (λ x. IsStartable x given) e s))
