use Rattle.std.proofs.Common.{◌∙◌, map, subst, sym}
use Rattle.instance_start.specs.Started.{Starts}
use Rattle.prism_instance.specs.Described.{prism_description}
use Rattle.prism_instance.specs.Instance.{process_of}
use Rattle.command_words.specs.Words.{checking_of, words_before_given}
use Rattle.command_words.specs.Given.{assignment_of}
use Rattle.model_process.specs.Starts.{Begins, IsBehind}
use Rattle.model_process.proofs.judging.on_prism.Goals as goal

pub returns : goal.returns
returns c = λ files is.
    let d = prism_description c.args.flat.now in
    let before = words_before_given (checking_of c.args.checking.now) in
    let values = c.as_slice-values.ensures in
    let starts = subst (λ gs. Starts process_of d gs c.start_prism-started.result) (c.as_slice.ensures ∙ c.in_ok-given.ensures) c.start_prism-started.ensures in
    c.ended.ensures d files is (subst (λ vs. Begins process_of d before (map assignment_of vs) c.begun-begun.result) values
    (c.begun-begun.ensures d before (subst (λ vs. IsBehind before (map assignment_of vs) c.args.next) (sym values) c.requires.behind) starts))
