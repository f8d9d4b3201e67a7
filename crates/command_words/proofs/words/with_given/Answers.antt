use Rattle.std.proofs.Common.{arith, length, ◌-◌}
use Rattle.std.specs.Prelude.{string_bytes}
use Rattle.command_words.specs.Words.{texts, job_of}
use Rattle.std.proofs.lemmas.List.{length-map}
use Rattle.command_words.proofs.Requests.{wrong_given, length-front}
use Rattle.command_words.proofs.words.with_given.Goals as goal

pub returns-in-Err-At : goal.returns-in-Err-At
returns-in-Err-At c =
    wrong_given (texts c.args.words.now) (texts c.args.start.front.rest.now) c.args.start.lang c.args.start.file.now (job_of c.args.start.front.job) c.in-Err-At.k
    (length c.args.words.now - length c.args.start.front.rest.now) c.requires.name c.requires.job c.requires.words_are
    (let e = length-front (texts c.args.words.now) _ _ _ (job_of c.args.start.front.job) (texts c.args.start.front.rest.now) c.requires.words_are in
    omega (arith, e, length-map c.args.words.now string_bytes, length-map c.args.start.front.rest.now string_bytes))
    (rw c.in-Err-At.field-0-is at c.in-Err-At.ensures)
