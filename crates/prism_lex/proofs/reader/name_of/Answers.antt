use Rattle.prism_lex.proofs.Names.{ident_name, quoted_name}
use Rattle.prism_lex.proofs.reader.name_of.Goals as goal

pub returns-in-Ident : goal.returns-in-Ident
returns-in-Ident c = ident_name c.args.kind c.args.text.now c.in-Ident.is c.requires

pub returns-in-Quoted : goal.returns-in-Quoted
returns-in-Quoted c = quoted_name c.args.kind c.args.text.now c.in-Quoted.is c.requires
