use Rattle.model_command.proofs.CarriedTexts.{alike_written, never_refused_written, starts_written}
use Rattle.model_command.proofs.laws.carried_law.Goals as goal

pub returns : goal.returns
returns c = record {
  alike = alike_written c.across_law.ensures.alike;
  not_refused = never_refused_written c.across_law.ensures.not_refused;
  starts = starts_written c.across_law.ensures.starts;
}
