-- What the text of the generated model spells, as a statement.
use Rattle.std.specs.Prelude.{ℕ, ◌^◌, ◌<◌}
use Rattle.prism_print.specs.Same.{SpellsFile}
use Rattle.generated_model.specs.Generated.{generated_file, generated_text}

-- The text spells the model, offsets aside, whatever the number of modules.
abbrev pub TextSpellsModel : Type 0
TextSpellsModel = (modules : ℕ) → modules < 2 ^ 32 → SpellsFile (generated_text modules) (generated_file modules)
