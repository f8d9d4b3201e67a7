use Rattle.jani_tree.specs.Syntax.{file_of}
use Rattle.name_table.specs.declared.class.Target.TheVariants.{Prism}
use Rattle.name_table.specs.PrismAsks.{asks}
use Rattle.name_table.proofs.Joined.{from_none}
use Rattle.name_table.proofs.prism_asking.parts_names.Goals as goal

pub returns : goal.returns
returns c = from_none Prism c.new-table.result c.ask_parts.new.table (asks (file_of c.args.file.now)) c.new-table.ensures c.in_ok-ask_parts.ensures
