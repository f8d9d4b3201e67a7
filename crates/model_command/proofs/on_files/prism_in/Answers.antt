use Rattle.model_command.proofs.ReadFiles.{is_read_prism}
use Rattle.model_command.proofs.on_files.prism_in.Goals as goal

pub returns : goal.returns
returns c = is_read_prism c.args.bytes.now c.read_prism.result c.read_prism.ensures.ok c.read_prism.ensures.refused
