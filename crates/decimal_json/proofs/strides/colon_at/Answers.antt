use Rattle.std.proofs.Common.{◌<◌, length, refl, arith}
use Rattle.decimal_json.specs.declared.machine.Mode.TheVariants as modes
use Rattle.decimal_json.proofs.Tokens.{from_mode}
use Rattle.decimal_json.proofs.strides.colon_at.Goals as goal

pub returns : goal.returns
returns c =
    let l : c.args.n < length c.args.bytes.now = (let e = c.if-n-bytes.false in let f = c.requires.front in omega (arith, e, f)) in from_mode c.args.at c.args.n c.args.bytes.now (modes.Colon c.args.start c.args.pending) c.args.state.now.frames _ c.in_colon.new.state c.in_colon.result c.taken.result refl l c.taken.ensures tt c.in_colon.ensures
