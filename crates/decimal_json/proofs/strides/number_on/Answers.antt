use Rattle.std.proofs.Common.{refl}
use Rattle.decimal_json.proofs.Tokens.{from_number}
use Rattle.decimal_json.proofs.strides.number_on.Goals as goal

pub returns : goal.returns
returns c =
    from_number c.args.at c.args.n c.args.start c.args.bytes.now c.args.digits c.args.state.now.frames _ c.in_number.new.state c.in_number.result c.taken.result refl c.requires.some c.taken.ensures c.in_number.ensures
