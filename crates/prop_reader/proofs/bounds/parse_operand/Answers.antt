use Rattle.prop_reader.proofs.Limiting.{operand_read, deep_halts, stop_at}
use Rattle.prop_reader.proofs.bounds.parse_operand.Goals as goal

pub returns-in-Ok : goal.returns-in-Ok
returns-in-Ok c = λ s. operand_read s _ _ _ c.requires (c.in-Ok.ensures.read s)

pub returns-in-Deep : goal.returns-in-Deep
returns-in-Deep c = deep_halts _ _ (stop_at _ _ c.in-Err-At.rest _ _ c.in-Err-At.field-0-is c.in-Deep.is c.in-Err-At.ensures.read)

pub parse_before-requires : goal.parse_before-requires
parse_before-requires c = record { alone = c.requires; stopped = stop_at _ _ c.in-Err-At.rest _ _ c.in-Err-At.field-0-is c.in-Form.is c.in-Err-At.ensures.read }
