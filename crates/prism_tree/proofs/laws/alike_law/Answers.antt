use Rattle.prism_tree.proofs.AlikeFiles.{alike_files, alike_within, alike_faults}
use Rattle.prism_tree.proofs.laws.alike_law.Goals as goal

pub returns : goal.returns
returns c = record { files = alike_files; within = alike_within; faults = alike_faults }
