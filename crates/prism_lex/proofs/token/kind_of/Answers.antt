use Rattle.std.proofs.Common.{sym, ◌∙◌}
use Rattle.prism_lex.proofs.Shapes.{state_name, state_quoted}
use Rattle.prism_lex.proofs.token.kind_of.Goals as goal

pub name_kind-requires : goal.name_kind-requires
name_kind-requires c = state_name c.args.text.now (sym c.requires.state ∙ c.in-Letters.is)

pub quoted_kind-requires : goal.quoted_kind-requires
quoted_kind-requires c = state_quoted c.args.text.now (sym c.requires.state ∙ c.in-Closed.is)
