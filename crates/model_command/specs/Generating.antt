-- What is told of a generated model: how many modules and commands it has, how long the text is that it is translated to, and how long the text
-- that this is translated to.
-- (The line is this project's own.)
use Rattle.std.specs.Prelude.{◌≡◌, ℕ, ◌*◌, ◌-◌, List, [], ◌∷◌, ◌++◌, length, codes}
use Rattle.std.specs.Fmt.{decimal}
use Rattle.prism_check.specs.SizeFaults.{command_count}
use Rattle.generated_model.specs.Generated.{generated_file, generated_text}
use Rattle.model_translation.specs.Translation.{Translates}
use Rattle.model_command.specs.ToPrism.{TranslatesToPrism}

-- `modules N commands C jani L prism B`
abbrev pub generated_line : ℕ → ℕ → ℕ → ℕ → List ℕ
generated_line modules commands jani prism =
    codes "modules " ++ (decimal modules ++ (codes " commands " ++ (decimal commands ++ (codes " jani " ++ (decimal jani ++ (codes " prism " ++ (decimal prism ++ 10 ∷ [])))))))

-- The text is the line of the generated model of so many modules: its canonical text is translated to this JANI text, and that to this PRISM text,
-- as `to-jani` and `to-prism` would.
pub record IsGenerated (modules : ℕ) (text : List ℕ) : Type 0 where
  pub jani : List ℕ
  pub prism : List ℕ
  pub to_jani : Translates (generated_text modules) jani
  pub to_prism : TranslatesToPrism jani prism
  pub commands : command_count (generated_file modules) ≡ 3 * modules - 1
  pub told : text ≡ generated_line modules (3 * modules - 1) (length jani) (length prism)
