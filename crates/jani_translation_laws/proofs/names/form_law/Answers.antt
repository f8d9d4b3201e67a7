use Rattle.jani_translation_laws.proofs.Form.{translated_has_form}
use Rattle.jani_translation_laws.proofs.names.form_law.Goals as goal

pub returns : goal.returns
returns c = translated_has_form
