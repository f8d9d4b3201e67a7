use Rattle.decimal_json.proofs.OneReading.{one_reading}
use Rattle.decimal_json.proofs.laws.one_reading.Goals as goal

pub returns : goal.returns
returns c = one_reading
