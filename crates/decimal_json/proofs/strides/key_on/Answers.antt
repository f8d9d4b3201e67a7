use Rattle.std.proofs.Common.{◌<◌, length, sym, arith}
use Rattle.decimal_json.specs.declared.machine.Stop.TheVariants.{Here}
use Rattle.decimal_json.proofs.StepLemmas.{closes_is}
use Rattle.decimal_json.proofs.Tokens.{from_memory, from_all, from_halt, from_in_key, key_halts}
use Rattle.decimal_json.proofs.strides.key_on.Goals as goal

pub returns-then-n-bytes : goal.returns-then-n-bytes
returns-then-n-bytes c = from_all c.args.at c.args.n c.args.bytes.now _ c.requires.some c.if-n-bytes.true

pub returns-then-not-closes : goal.returns-then-not-closes
returns-then-not-closes c =
    let l : c.args.n < length c.args.bytes.now = let k = c.requires.front in let e = c.if-n-bytes.false in omega (arith, k, e) in
    from_halt c.args.at c.args.n c.args.bytes.now _ Here l (key_halts _ _ _ _ _ _ _ c.args.state.now.frames _ (c.requires.stops l) c.closes.ensures c.if-not-closes.true)

pub returns-in-Err : goal.returns-in-Err
returns-in-Err c = from_memory c.args.at c.args.n c.args.bytes.now _ c.requires.some

pub key_named-requires-clause-quote : goal.key_named-requires-clause-quote
key_named-requires-clause-quote c = (closes_is _ _ _ c.closes.ensures c.if-not-closes.false).1

pub returns-in-Ok : goal.returns-in-Ok
returns-in-Ok c =
    from_in_key c.args.at c.args.n c.args.start c.args.bytes.now c.args.members c.args.from _ _ _ _ c.args.state.now.frames _ (closes_is _ _ _ c.closes.ensures c.if-not-closes.false).0 (sym c.in-Ok.ensures) c.key_named.ensures
