use Rattle.prop_grammar.proofs.AlikeProperties.{alike_names, alike_files, alike_within, alike_faults}
use Rattle.prop_grammar.proofs.laws.alike_props_law.Goals as goal

pub returns : goal.returns
returns c = record { names = alike_names; files = alike_files; within = alike_within; faults = alike_faults }
