use Rattle.process_core.specs.Combined.{choices-append, choices_often, together_parts, of_modules_vectors}
use Rattle.process_core.proofs.laws.combination_laws.Goals as goal

pub returns : goal.returns
returns c = record { appended = choices-append; often = λ s cs ds. choices_often s; parted = together_parts; as_vectors = of_modules_vectors }
