use Rattle.model_command.proofs.OneEnding.{one_ending}
use Rattle.model_command.proofs.laws.one_ending.Goals as goal

pub returns : goal.returns
returns c =
    one_ending
    (record {
      fault = c.one_reading_law.ensures.prism_fault;
      translation = c.one_text_law.ensures.translation;
      translation_with = c.one_text_law.ensures.with_properties;
      properties_fault = c.one_text_law.ensures.properties_fault;
      properties = c.one_text_law.ensures.properties;
      properties_refused = c.one_text_law.ensures.properties_refused;
      lists = c.one_list_of_faults.ensures;
      end = c.one_end_law.ensures.end;
      model_fault = c.one_end_law.ensures.model_fault;
      either = c.one_end_law.ensures.either;
      claim = c.one_end_law.ensures.claim;
      file_fault = c.one_end_law.ensures.file_fault;
      claim_either = c.one_end_law.ensures.claim_either;
      carried = c.one_carry_law.ensures.one;
      carried_fault = c.one_carry_law.ensures.fault;
      carried_either = c.one_carry_law.ensures.apart;
      specialised = c.one_specialise_law.ensures.one;
      specialised_either = c.one_specialise_law.ensures.apart;
    })
