use Rattle.jani_tree.specs.Syntax.{file_of}
use Rattle.jani_tree.proofs.Wider.{short_is_read}
use Rattle.jani_tree.proofs.read.from_json.Goals as goal

pub returns-clause-only : goal.returns-clause-only
returns-clause-only c = c.in_ok-tree.ensures.only

pub returns-clause-form : goal.returns-clause-form
returns-clause-form c = λ h. short_is_read (file_of c.in_ok-tree.tree) (c.in_ok-tree.ensures.form h)

pub returns-clause-short : goal.returns-clause-short
returns-clause-short c = c.in_ok-tree.ensures.form

pub returns-clause-once : goal.returns-clause-once
returns-clause-once c = c.in_ok-tree.ensures.once
