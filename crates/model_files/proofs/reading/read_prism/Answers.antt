use Rattle.prism_tree.specs.Syntax.{file_of}
use Rattle.model_files.proofs.PrismFiles.{faultless, refuses}
use Rattle.model_files.proofs.reading.read_prism.Goals as goal

pub check_prism-requires : goal.check_prism-requires
check_prism-requires c = c.printable_law.ensures c.args.bytes.now (file_of c.in-Ok.file) c.in-Ok.ensures.ok.spells

pub returns-clause-ok : goal.returns-clause-ok
returns-clause-ok c = faultless c.args.bytes.now (file_of c.in-Ok.file) c.in-Ok.ensures.ok c.check_prism.result c.check_prism.ensures.ok

pub returns-clause-refused : goal.returns-clause-refused
returns-clause-refused c = refuses c.args.bytes.now (file_of c.in-Ok.file) c.in-Ok.ensures.ok c.check_prism.result c.check_prism.ensures.refused
