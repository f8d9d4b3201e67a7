use Rattle.name_table.proofs.Identifiers.{asked_of, fault_of}
use Rattle.name_table.proofs.identifier.is_identifier.Goals as goal

pub returns-in-Ok : goal.returns-in-Ok
returns-in-Ok c = asked_of c.args.name.now c.as_bytes.result.now c.in-Ok.token c.is_whole.result c.as_bytes.ensures.value c.in-Ok.ensures.token c.in-Ok.ensures.end c.is_whole.ensures

pub returns-in-Err : goal.returns-in-Err
returns-in-Err c = fault_of c.args.name.now c.as_bytes.result.now c.in-Err.field-0 c.as_bytes.ensures.value c.in-Err.ensures.fault
