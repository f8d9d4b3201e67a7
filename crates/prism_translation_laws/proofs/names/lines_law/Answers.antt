use Rattle.prism_translation_laws.proofs.Comments.{lines_are_comments}
use Rattle.prism_translation_laws.proofs.names.lines_law.Goals as goal

pub returns : goal.returns
returns c = lines_are_comments
