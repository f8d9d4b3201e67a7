use Rattle.prism_tree.specs.Syntax.{file_of}
use Rattle.name_table.specs.declared.class.Target.TheVariants.{Jani}
use Rattle.name_table.specs.Asks.{asks}
use Rattle.name_table.proofs.Joined.{from_none}
use Rattle.name_table.proofs.asking.flat_names.Goals as goal

pub returns : goal.returns
returns c = from_none Jani c.new-table.result c.ask_file.new.table (asks (file_of c.args.file.now)) c.new-table.ensures c.in_ok-ask_file.ensures
