use Rattle.std.proofs.Common.{sym, ap, ◌∙◌, arith}
use Rattle.decimal_json.proofs.Tokens.{from_spaces, from_all, begins_value}
use Rattle.std.specs.Prelude.{Ok}
use Rattle.decimal_json.specs.States.{waits}
use Rattle.decimal_json.proofs.strides.advance.Goals as goal

pub returns-then-n-bytes : goal.returns-then-n-bytes
returns-then-n-bytes c =
    from_spaces c.args.at c.spaces-n.result c.args.bytes.now c.args.state.now (Ok (c.spaces-n.result, c.args.state.now)) (ap waits (sym c.as_mode.ensures) ∙ sym c.waits.ensures ∙ c.if-not-waits.false) c.spaces-n.ensures.all.1 (from_all c.args.at c.spaces-n.result c.args.bytes.now c.args.state.now c.requires.some c.if-n-bytes.true)

pub returns-then-is_value : goal.returns-then-is_value
returns-then-is_value c =
    from_spaces c.args.at c.spaces-n.result c.args.bytes.now c.args.state.now _ (ap waits (sym c.as_mode.ensures) ∙ sym c.waits.ensures ∙ c.if-not-waits.false) c.spaces-n.ensures.all.1 (c.value_at.ensures c.args.state.now (begins_value _ _ c.args.state.now (sym c.as_mode-2.ensures ∙ c.is_value.ensures c.if-is_value.true) (c.spaces-n.ensures.stops (let a = c.spaces-n.ensures.all.0 in let e = c.if-n-bytes.false in omega (arith, a, e)))))

pub returns : goal.returns
returns c =
    from_spaces c.args.at c.spaces-n.result c.args.bytes.now c.args.state.now _ (ap waits (sym c.as_mode.ensures) ∙ sym c.waits.ensures ∙ c.if-not-waits.false) c.spaces-n.ensures.all.1 c.token-2.ensures
