-- Kept tokens in which a quoted name is kept as a name. (This project's own way of reading labels.)
use Rattle.prism_exprs.specs.declared.tokens.Kept.{Kept}
use Rattle.prism_exprs.specs.declared.tokens.Kept.TheVariants.{Word, Symbol, Ident, Quoted, Number}
use Rattle.prism_exprs.specs.declared.tokens.Found.{Found}

abbrev pub kept_name : Kept → Kept
kept_name Quoted = Ident
kept_name (Word w) = Word w
kept_name (Symbol s) = Symbol s
kept_name Ident = Ident
kept_name (Number d) = Number d

abbrev pub named_found : Found → Found
named_found f = record { kind = kept_name f.kind; size = f.size; at = f.at }
