use Rattle.std.proofs.Common.{◌∷◌, refl, sym, subst}
use Rattle.std.specs.Prelude.{Err}
use Rattle.command_words.specs.Words.{checking_of}
use Rattle.model_process.specs.Claims.{JudgesOn}
use Rattle.model_process.proofs.Files.{of_prism, refused_prism}
use Rattle.model_process.proofs.judging.in_prism.Goals as goal

pub returns-in-Err : goal.returns-in-Err
returns-in-Err c = λ bytes read lang.
    let k = checking_of c.args.checking.now in
    subst (λ x. JudgesOn k (bytes ∷ c.args.others.now) (Err x)) (sym c.at_file.ensures) (refused_prism k bytes c.args.others.now lang c.in-Err.refused (c.in-Err.ensures.refused bytes read))

pub returns : goal.returns
returns c = λ bytes read lang.
    let t = c.in-Ok.ensures.ok bytes read in
    of_prism (checking_of c.args.checking.now) bytes c.args.others.now lang c.in-Ok.flat t.0 t.1 (c.described_law.ensures c.in-Ok.flat t.0 t.2) c.on_prism.result
    (c.on_prism.ensures c.args.others.now refl)
