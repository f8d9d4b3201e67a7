use Rattle.std.proofs.Common.{refl}
use Rattle.decimal_json.specs.declared.machine.Mode.TheVariants as modes
use Rattle.decimal_json.proofs.Tokens.{from_mode}
use Rattle.decimal_json.proofs.strides.value_on.Goals as goal

pub returns : goal.returns
returns c =
    from_mode c.args.at c.args.n c.args.bytes.now modes.Value c.args.state.now.frames _ c.in_value.new.state c.in_value.result c.taken.result refl c.requires.some c.taken.ensures tt c.in_value.ensures
