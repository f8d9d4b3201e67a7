use Rattle.std.proofs.Common.{arith, ap, length, ◌-◌}
use Rattle.std.specs.Prelude.{string_bytes}
use Rattle.command_words.specs.Words.{texts}
use Rattle.std.proofs.lemmas.List.{length-map}
use Rattle.command_words.proofs.Requests.{wrong_given_specialise}
use Rattle.command_words.proofs.words.specialise_with_given.Goals as goal

pub returns-in-Err-At : goal.returns-in-Err-At
returns-in-Err-At c =
    wrong_given_specialise (texts c.args.words.now) (texts c.args.head.rest.now) c.args.head.lang c.args.head.file.now c.in-Err-At.k (length c.args.words.now - length c.args.head.rest.now)
    c.requires.name c.requires.words_are
    (let e = ap length c.requires.words_are in
    omega (arith, e, length-map c.args.words.now string_bytes, length-map c.args.head.rest.now string_bytes))
    (rw c.in-Err-At.field-0-is at c.in-Err-At.ensures)
