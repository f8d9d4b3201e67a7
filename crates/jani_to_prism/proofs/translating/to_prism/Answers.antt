use Rattle.jani_tree.specs.Syntax.{file_of}
use Rattle.jani_to_prism.proofs.Kept.{told, told_lines}
use Rattle.jani_to_prism.proofs.translating.to_prism.Goals as goal

pub returns-clause-ok : goal.returns-clause-ok
returns-clause-ok c =
    told (file_of c.args.checked.now) c.translate.result c.translate.ensures.accepted c.translate.ensures.translation c.promised.ensures c.translated_law.ensures

pub returns-clause-lines : goal.returns-clause-lines
returns-clause-lines c = told_lines (file_of c.args.checked.now) c.translate.result c.translate.ensures.translation
