use Rattle.std.proofs.Common.{◌∷◌, refl, sym, subst}
use Rattle.std.specs.Prelude.{Err}
use Rattle.command_words.specs.Words.{checking_of}
use Rattle.jani_tree.specs.Syntax.{file_of}
use Rattle.model_files.specs.JaniFile.{IsReadJani}
use Rattle.model_process.specs.Claims.{JudgesOn}
use Rattle.model_process.proofs.Files.{of_jani, refused_jani}
use Rattle.model_process.proofs.judging.in_jani.Goals as goal

pub returns-in-Err : goal.returns-in-Err
returns-in-Err c = λ bytes read lang.
    let k = checking_of c.args.checking.now in
    subst (λ x. JudgesOn k (bytes ∷ c.args.others.now) (Err x)) (sym c.at_file.ensures)
    (refused_jani k bytes c.args.others.now lang c.in-Err.refused (subst (IsReadJani bytes) c.in-Err.is read))

pub returns : goal.returns
returns c = λ bytes read lang.
    of_jani (checking_of c.args.checking.now) bytes c.args.others.now lang (file_of c.in-Ok.checked) (subst (IsReadJani bytes) c.in-Ok.is read) c.on_jani.result
    (c.on_jani.ensures c.args.others.now refl)
