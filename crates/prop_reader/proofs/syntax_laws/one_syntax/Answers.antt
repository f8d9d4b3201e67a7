use Rattle.prop_reader.proofs.OneSyntax as single
use Rattle.prop_reader.proofs.syntax_laws.one_syntax.Goals as goal

pub returns : goal.returns
returns c = single.one_syntax c.one_list.ensures.list c.one_list.ensures.faults
