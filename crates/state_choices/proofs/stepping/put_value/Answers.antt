use Rattle.std.proofs.Common.{◌<◌, length, arith}
use Rattle.state_choices.proofs.Columns.{put_within, put_apart, put_small}
use Rattle.state_choices.proofs.stepping.put_value.Goals as goal

pub overflow_sub-result : goal.overflow_sub-result
overflow_sub-result c =
    let past = c.if-column-len.false in
    let len = c.len.ensures in
    put_within c.args.values.now.items c.args.to.now c.args.column c.index.result.now c.index-to-column.result c.index-to-column-2.result c.args.value c.args.apart c.differs-before.result c.differs-after.result
    (let h : c.args.column < length c.args.values.now.items = omega (arith, past, len) in h) c.requires.long c.index.ensures c.index-to-column.is c.index-to-column-2.is c.requires.apart c.differs-before.ensures.value c.differs-after.ensures.value

pub overflow_add-result : goal.overflow_add-result
overflow_add-result c =
    let past = c.if-column-len.false in
    let len = c.len.ensures in
    let small = c.len.type_inv in
    let s = put_small c.args.values.now.items c.args.to.now c.args.column c.index.result.now c.index-to-column.result c.index-to-column-2.result c.args.value c.args.apart c.differs-before.result c.differs-after.result
    (let h : c.args.column < length c.args.values.now.items = omega (arith, past, len) in h) c.requires.long c.index.ensures c.index-to-column.is c.index-to-column-2.is c.requires.apart c.differs-before.ensures.value c.differs-after.ensures.value in
    omega (arith, s, len, small)

pub returns-clause-apart : goal.returns-clause-apart
returns-clause-apart c =
    let past = c.if-column-len.false in
    let len = c.len.ensures in
    put_apart c.args.values.now.items c.args.to.now c.args.column c.index.result.now c.index-to-column.result c.index-to-column-2.result c.args.value c.args.apart c.differs-before.result c.differs-after.result
    (let h : c.args.column < length c.args.values.now.items = omega (arith, past, len) in h) c.requires.long c.index.ensures c.index-to-column.is c.index-to-column-2.is c.requires.apart c.differs-before.ensures.value c.differs-after.ensures.value
