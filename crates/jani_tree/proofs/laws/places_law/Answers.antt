use Rattle.jani_tree.proofs.Bare.{file_bare}
use Rattle.jani_tree.proofs.Same.{same_tree}
use Rattle.jani_tree.proofs.laws.places_law.Goals as goal

pub returns-clause-apart : goal.returns-clause-apart
returns-clause-apart c = file_bare

pub returns-clause-same : goal.returns-clause-same
returns-clause-same c = same_tree
