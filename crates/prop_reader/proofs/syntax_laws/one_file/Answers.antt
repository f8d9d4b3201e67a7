use Rattle.prop_reader.proofs.OneSyntax as single
use Rattle.prop_reader.proofs.syntax_laws.one_file.Goals as goal

pub returns : goal.returns
returns c = single.one_file c.one_list.ensures.list
