use Rattle.process_texts.proofs.Once.{one_value, one_state, one_name}
use Rattle.process_texts.proofs.Printed.{value_back, state_back}
use Rattle.process_texts.proofs.PlainNames.{name_is_plain}
use Rattle.process_texts.proofs.laws.text_laws.Goals as goal

pub returns : goal.returns
returns c = record { value = one_value; state = one_state; name = one_name c.one_value.ensures.value; value_back = value_back c.number_laws.ensures.numeral; state_back = state_back; plain = name_is_plain }
