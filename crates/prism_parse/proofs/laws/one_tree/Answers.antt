use Rattle.prism_parse.proofs.Trees as trees
use Rattle.prism_parse.proofs.laws.one_tree.Goals as goal

pub returns : goal.returns
returns c = trees.one_tree c.one_list.ensures.list
