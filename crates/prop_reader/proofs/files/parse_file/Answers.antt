use Rattle.std.proofs.Common.{rules}
use Rattle.prop_reader.proofs.Spelling.{token_refusal, all_spelled, all_refused}
use Rattle.prop_reader.proofs.files.parse_file.Goals as goal

pub returns-in_err-lexed-clause-err : goal.returns-in_err-lexed-clause-err
returns-in_err-lexed-clause-err c = let r = token_refusal c.one_list.ensures.faults c.args.bytes.now c.in_err-lexed.field-0.0 c.in_err-lexed.ensures.err in search rules

pub returns-clause-ok : goal.returns-clause-ok
returns-clause-ok c = all_spelled c.one_list.ensures.list c.args.bytes.now c.in_ok-lexed.lexed.literals c.in_ok-lexed.lexed.found c.in_ok-lexed.ensures.ok c.read_named.result (rw (← c.as_slice.ensures, ← c.as_slice-2.ensures) c.read_named.ensures.ok)

pub returns-clause-err : goal.returns-clause-err
returns-clause-err c = all_refused c.one_list.ensures.list c.args.bytes.now c.in_ok-lexed.lexed.literals c.in_ok-lexed.lexed.found c.in_ok-lexed.ensures.ok c.read_named.result (rw (← c.as_slice.ensures, ← c.as_slice-2.ensures) c.read_named.ensures.err)
