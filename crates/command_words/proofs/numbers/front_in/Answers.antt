use Rattle.std.proofs.Common.{refl}
use Rattle.command_words.proofs.Pairs.{no_comma, no_first, no_second}
use Rattle.command_words.proofs.numbers.front_in.Goals as goal

pub returns-in_default : goal.returns-in_default
returns-in_default c = no_comma c.args.text.now c.first_part.result.0.now (rw c.in_default.is at c.first_part.ensures)

pub returns-in_default-number_in : goal.returns-in_default-number_in
returns-in_default-number_in c =
    no_first c.args.text.now c.first_part.result.0.now c.in-Some.behind.now c.first_part-2.result.0.now _ (rw c.in-Some.is at c.first_part.ensures) c.first_part-2.ensures 4294967295 refl c.in_default-number_in.ensures

pub returns-in_default-number_in-2 : goal.returns-in_default-number_in-2
returns-in_default-number_in-2 c =
    no_second c.args.text.now c.first_part.result.0.now c.in-Some.behind.now c.first_part-2.result.0.now _ (rw c.in-Some.is at c.first_part.ensures) c.first_part-2.ensures 4294967295 refl c.in_default-number_in-2.ensures
