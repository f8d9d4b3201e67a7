use Rattle.model_files.proofs.Once.{faulty_or_jani, faulty_or_prism, one_jani_fault, one_jani_tree, one_prism_fault, one_prism_tree}
use Rattle.model_files.proofs.laws.one_reading_law.Goals as goal

pub returns-clause-prism_tree : goal.returns-clause-prism_tree
returns-clause-prism_tree c = one_prism_tree

pub returns-clause-prism_fault : goal.returns-clause-prism_fault
returns-clause-prism_fault c = one_prism_fault c.one_syntax.ensures

pub returns-clause-prism_either : goal.returns-clause-prism_either
returns-clause-prism_either c = faulty_or_prism

pub returns-clause-jani_tree : goal.returns-clause-jani_tree
returns-clause-jani_tree c = one_jani_tree

pub returns-clause-jani_fault : goal.returns-clause-jani_fault
returns-clause-jani_fault c = one_jani_fault

pub returns-clause-jani_either : goal.returns-clause-jani_either
returns-clause-jani_either c = faulty_or_jani
