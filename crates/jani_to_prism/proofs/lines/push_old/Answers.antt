use Rattle.std.proofs.Common.{refl}
use Rattle.std.specs.Prelude.{codes}
use Rattle.jani_to_prism.proofs.Utf8Lines.{known_utf8, told_name, told_piece}
use Rattle.jani_to_prism.proofs.lines.push_old.Goals as goal

pub returns-in-Some-clause-utf8 : goal.returns-in-Some-clause-utf8
returns-in-Some-clause-utf8 c = told_name _ _ _ _ c.push_string.ensures.text c.push_string.ensures.utf8

pub returns-in-None-clause-utf8 : goal.returns-in-None-clause-utf8
returns-in-None-clause-utf8 c = told_piece _ _ (codes "none") _ (known_utf8 (codes "none") refl) c.extend_from_slice.ensures.items
