use Rattle.model_command.proofs.ReadFiles.{is_read_jani}
use Rattle.model_command.proofs.on_files.jani_in.Goals as goal

pub returns : goal.returns
returns c = is_read_jani c.args.bytes.now c.read_jani.result c.read_jani.ensures.ok c.read_jani.ensures.refused
