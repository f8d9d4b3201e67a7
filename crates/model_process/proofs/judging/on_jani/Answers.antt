use Rattle.std.proofs.Common.{◌∙◌, subst}
use Rattle.jani_tree.specs.Syntax.{file_of}
use Rattle.instance_start.specs.Started.{Starts}
use Rattle.jani_instance.specs.Described.{jani_description}
use Rattle.jani_instance.specs.Instance.{process_of}
use Rattle.command_words.specs.Words.{checking_of, words_before_given}
use Rattle.model_process.proofs.judging.on_jani.Goals as goal

pub returns : goal.returns
returns c = λ files is.
    let d = jani_description (file_of c.args.checked.now) in
    c.ended.ensures d files is ((rw c.as_slice-values.ensures at c.begun-begun.ensures) d (words_before_given (checking_of c.args.checking.now)) c.requires.behind
    (subst (λ gs. Starts process_of d gs c.start_jani-started.result) (c.as_slice.ensures ∙ (rw c.as_slice-values.ensures at c.in_ok-given.ensures)) c.start_jani-started.ensures))
