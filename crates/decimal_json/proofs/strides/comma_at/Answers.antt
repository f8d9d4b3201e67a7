use Rattle.std.proofs.Common.{arith}
use Rattle.decimal_json.proofs.Tokens.{from_ends, from_item, from_memory, ends_same, some_holds, none_holds}
use Rattle.decimal_json.specs.Kept.{AddsItem}
use Rattle.decimal_json.proofs.strides.comma_at.Goals as goal

pub returns-then-c-ne44 : goal.returns-then-c-ne44
returns-then-c-ne44 c u b =
    from_ends c.args.at c.args.n c.args.bytes.now _ u c.in_after.new.state c.in_after.result c.taken.result c.requires.some c.taken.ensures c.in_after.ensures.goes c.in_after.ensures.quiet b

pub returns-in-Err : goal.returns-in-Err
returns-in-Err c u b = from_memory c.args.at c.args.n c.args.bytes.now u (let e = c.requires.some in omega (arith, e))

pub returns-in-Ok-Some : goal.returns-in-Ok-Some
returns-in-Ok-Some c u b = c.comma_on.ensures u (ends_same _ _ u _ _ _ _ (some_holds _ _ _ c.in-Ok-Some.field-0-is c.in-Ok-Some.ensures.left).1 (some_holds _ _ _ c.in-Ok-Some.field-0-is c.in-Ok-Some.ensures.left).0 b)

pub returns-in-Ok-None : goal.returns-in-Ok-None
returns-in-Ok-None c u b =
    from_item c.args.at c.args.n c.args.bytes.now c.args.state.now.frames c.add_item.new.self c.args.value u _ c.requires.some (let e = c.if-c-ne44.false in omega (arith, e)) (none_holds (AddsItem c.args.state.now.frames c.args.value c.add_item.new.self) _ c.in-Ok-None.field-0-is c.in-Ok-None.ensures.added) c.await_value.ensures b
