use Rattle.std.proofs.Common.{[], refl, arith}
use Rattle.decimal_json.proofs.Tokens.{from_quote, from_brace}
use Rattle.decimal_json.proofs.strides.value_at.Goals as goal

pub returns-then-c-eq34 : goal.returns-then-c-eq34
returns-then-c-eq34 c u b =
    from_quote c.args.at c.args.n c.args.bytes.now c.args.state.now.frames u [] _ c.requires.some c.if-c-eq34.true refl b c.text_opened.ensures

pub returns-then-len-lt1024 : goal.returns-then-len-lt1024
returns-then-len-lt1024 c u b =
    from_brace c.args.at c.args.n c.args.bytes.now c.args.state.now.frames u _ c.requires.some (omega arith) (omega arith) b c.first_key_at.ensures
