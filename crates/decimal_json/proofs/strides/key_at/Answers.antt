use Rattle.std.proofs.Common.{◌<◌, [], length, refl, arith}
use Rattle.decimal_json.specs.declared.machine.Mode.TheVariants as modes
use Rattle.decimal_json.proofs.Tokens.{from_mode, from_key}
use Rattle.decimal_json.proofs.strides.key_at.Goals as goal

pub returns-then-bytes-n-ne34 : goal.returns-then-bytes-n-ne34
returns-then-bytes-n-ne34 c =
    let l : c.args.n < length c.args.bytes.now = (let e = c.if-n-bytes.false in let f = c.requires.front in omega (arith, e, f)) in from_mode c.args.at c.args.n c.args.bytes.now (modes.Key c.args.start c.args.members) c.args.state.now.frames _ c.in_next_key.new.state c.in_next_key.result c.taken.result refl l c.taken.ensures tt c.in_next_key.ensures

pub returns : goal.returns
returns c =
    let l : c.args.n < length c.args.bytes.now = (let e = c.if-n-bytes.false in let f = c.requires.front in omega (arith, e, f)) in from_key c.args.at c.args.n c.args.start c.args.bytes.now c.args.members c.args.state.now.frames [] _ l (let e = c.if-bytes-n-ne34.false in omega (arith, e)) refl c.key_opened.ensures
