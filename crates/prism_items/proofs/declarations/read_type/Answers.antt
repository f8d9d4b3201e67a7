use Rattle.std.proofs.Common.{◌∙◌, sym, ap, List}
use Rattle.prism_lex.specs.Tokens.{Lexeme}
use Rattle.prism_items.proofs.Seen.{type_seen, type_other, type_none}
use Rattle.prism_items.proofs.declarations.read_type.Goals as goal

pub returns-in_default : goal.returns-in_default
returns-in_default c = sym (type_none _ _ c.in_default.ensures.cases)

pub returns-in_default-type_of : goal.returns-in_default-type_of
returns-in_default-type_of c = sym (type_other _ _ _ _ c.in-Some.first.now c.in-Some.ensures.cases.0 c.in_default-type_of.ensures)

pub returns : goal.returns
returns c = ap (λ (u : List Lexeme). (c.in-Some-type_of.ty, u)) c.with.ensures ∙ sym (type_seen _ _ _ _ c.in-Some.first.now _ c.in-Some.ensures.cases.0 c.in-Some-type_of.ensures)
