use Rattle.std.proofs.Common.{arith, ap, length, ◌-◌}
use Rattle.std.specs.Prelude.{string_bytes}
use Rattle.command_words.specs.Words.{texts}
use Rattle.std.proofs.lemmas.List.{length-map}
use Rattle.command_words.proofs.Requests.{wrong_given_carry}
use Rattle.command_words.proofs.words.carry_with_given.Goals as goal

pub returns-in-Err-At : goal.returns-in-Err-At
returns-in-Err-At c =
    wrong_given_carry (texts c.args.words.now) (texts c.args.front.rest.now) c.args.front.lang c.args.front.file.now c.args.front.path.now c.in-Err-At.k (length c.args.words.now - length c.args.front.rest.now)
    c.requires.names c.requires.words_are
    (let e = ap length c.requires.words_are in
    omega (arith, e, length-map c.args.words.now string_bytes, length-map c.args.front.rest.now string_bytes))
    (rw c.in-Err-At.field-0-is at c.in-Err-At.ensures)
