use Rattle.std.proofs.Common.{rules, ◌≢◌, arith}
use Rattle.std.specs.Fmt.{decimal}
use Rattle.command_words.proofs.Pairs.{not_parsed, past_most, other_text}
use Rattle.command_words.proofs.numbers.number_in.Goals as goal

pub returns-in_default : goal.returns-in_default
returns-in_default c = not_parsed c.args.most c.args.text.now c.parse.result (omega arith) c.parse.ensures.value.0 _ c.in_default.is

pub returns-then-number-most : goal.returns-then-number-most
returns-then-number-most c = past_most c.args.most c.args.text.now c.parse.result (omega arith) c.parse.ensures.value.0 _ c.in-Ok.is c.if-number-most.true

pub returns-else-eq : goal.returns-else-eq
returns-else-eq c =
    let other : decimal c.in-Ok.number ≢ c.args.text.now = search rules in
    other_text c.args.most c.args.text.now c.parse.result (omega arith) c.parse.ensures.value.0 _ c.in-Ok.is other
