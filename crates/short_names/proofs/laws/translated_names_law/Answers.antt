use Rattle.short_names.proofs.Translations.{translated_names}
use Rattle.short_names.proofs.laws.translated_names_law.Goals as goal

pub returns : goal.returns
returns c = translated_names
