use Rattle.std.proofs.Common.{refl, lit<}
use Rattle.std.proofs.lemmas.Str.Pattern.{split_parts}
use Rattle.command_words.proofs.numbers.first_part.Goals as goal

pub returns-in-Some : goal.returns-in-Some
returns-in-Some c = rw c.in-Some.is at (split_parts 44 c.args.text.now c.split_once.result c.split_once.ensures.cases (lit< tt))

pub returns-in-None : goal.returns-in-None
returns-in-None c = (refl, rw c.in-None.is at (split_parts 44 c.args.text.now c.split_once.result c.split_once.ensures.cases (lit< tt)))
