use Rattle.model_translation.proofs.Once.{one_properties_fault, one_properties_refused, one_properties_text, one_translation, one_translation_with}
use Rattle.model_translation.proofs.laws.one_text_law.Goals as goal

pub returns-clause-translation : goal.returns-clause-translation
returns-clause-translation c = one_translation

pub returns-clause-with_properties : goal.returns-clause-with_properties
returns-clause-with_properties c = one_translation_with

pub returns-clause-properties_fault : goal.returns-clause-properties_fault
returns-clause-properties_fault c = one_properties_fault c.one_list_of_faults.ensures

pub returns-clause-properties : goal.returns-clause-properties
returns-clause-properties c = one_properties_text

pub returns-clause-properties_refused : goal.returns-clause-properties_refused
returns-clause-properties_refused c = one_properties_refused
