use Rattle.std.proofs.Common.{arith, ◌≡◌, []}
use Rattle.std.proofs.lemmas.Grind.{common_steps}
use Rattle.std.specs.Prelude.{string_bytes}
use Rattle.command_words.specs.Words.{HasFileWord}
use Rattle.command_words.proofs.Wrong.{read_none, read_first}
use Rattle.command_words.proofs.Requests.{no_file_word, empty_file_word}
use Rattle.command_words.proofs.words.file_in.Goals as goal

pub returns-in_default : goal.returns-in_default
returns-in_default c = read_none HasFileWord 1 _ c.in_default.len_below no_file_word

pub returns-then-is_empty : goal.returns-then-is_empty
returns-then-is_empty c =
    let e : string_bytes c.name-item.result ≡ [] = grind (arith, common_steps) in
    read_first HasFileWord 1 _ c.name-item.result [] c.in-len1-up.len_at_least c.name-item.is e (empty_file_word _)
