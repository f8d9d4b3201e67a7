use Rattle.std.specs.Prelude.{IfOk}
use Rattle.std.proofs.Common.{◌≡◌, ap, subst}
use Rattle.prism_tree.specs.Syntax as prism
use Rattle.jani_tree.specs.Places.{bare_file}
use Rattle.jani_tree.specs.Syntax.{file_of}
use Rattle.jani_automata.specs.Translated.{translated}
use Rattle.prism_to_jani.specs.Statements.{IsTranslation}
use Rattle.prism_to_jani.proofs.translating.image_of.Goals as goal

pub returns : goal.returns
unfolding IsTranslation
returns c = subst (λ (f : prism.File). IfOk c.translate.result (λ j. bare_file (file_of j) ≡ bare_file (translated f))) c.file.ensures.tree c.translate.ensures
