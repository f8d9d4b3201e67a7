use Rattle.process_core.specs.Distribution.{total_products, total_unit, choices_proper}
use Rattle.process_core.proofs.laws.distribution_laws.Goals as goal

pub returns-clause-totals : goal.returns-clause-totals
returns-clause-totals c = record { products = total_products; units = total_unit }

pub returns-clause-choices : goal.returns-clause-choices
returns-clause-choices c = choices_proper
