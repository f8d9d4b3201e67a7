use Rattle.jani_table.specs.Node.{node}
use Rattle.jani_tree.specs.Syntax.{file_of}
use Rattle.jani_tree.proofs.Formed.{file_read, file_once}
use Rattle.jani_tree.proofs.Normal.{normal_node}
use Rattle.jani_tree.proofs.Once.{once_node}
use Rattle.jani_tree.proofs.Unique.{same_file}
use Rattle.jani_tree.proofs.read.tree.Goals as goal

pub returns-clause-only : goal.returns-clause-only
returns-clause-only c = λ x h. same_file (node c.args.value.now) x (file_of c.in_ok-tree.tree) h c.in_ok-tree.ensures

pub returns-clause-form : goal.returns-clause-form
returns-clause-form c = λ h. file_read (node c.args.value.now) (file_of c.in_ok-tree.tree) c.requires (normal_node c.args.value.now h) c.in_ok-tree.ensures

pub returns-clause-once : goal.returns-clause-once
returns-clause-once c = λ h. file_once (node c.args.value.now) (file_of c.in_ok-tree.tree) c.in_ok-tree.ensures (once_node c.args.value.now h)
