use Rattle.prism_lex.proofs.Keeping.{holds_word, holds_symbol, holds_ident, holds_quoted, holds_number}
use Rattle.prism_lex.proofs.kept.Lexer.kept.Goals as goal

pub returns-in-Word : goal.returns-in-Word
returns-in-Word c = holds_word c.args.self.now.lexed c.args.kind c.args.name.now c.in-Word.word c.in-Word.is

pub returns-in-Symbol : goal.returns-in-Symbol
returns-in-Symbol c = holds_symbol c.args.self.now.lexed c.args.kind c.args.name.now c.in-Symbol.symbol c.in-Symbol.is

pub returns-in_ok-row-in-Ident : goal.returns-in_ok-row-in-Ident
returns-in_ok-row-in-Ident c =
    holds_ident c.args.self.now.lexed _ c.args.kind c.args.name.now _ _ c.in-Ident.is c.requires c.in_ok-row-in-Ident.ensures.name c.in_ok-row-in-Ident.ensures.literals c.in_ok-row-in-Ident.ensures.found

pub returns-in_ok-row-in-Quoted : goal.returns-in_ok-row-in-Quoted
returns-in_ok-row-in-Quoted c =
    holds_quoted c.args.self.now.lexed _ c.args.kind c.args.name.now _ _ c.in-Quoted.is c.requires c.in_ok-row-in-Quoted.ensures.name c.in_ok-row-in-Quoted.ensures.literals c.in_ok-row-in-Quoted.ensures.found

pub returns-in_ok-row-in-Number : goal.returns-in_ok-row-in-Number
returns-in_ok-row-in-Number c =
    holds_number c.args.self.now.lexed _ c.args.kind c.args.name.now c.in-Number.value _ _ c.in-Number.is c.in_ok-row-in-Number.ensures.number c.in_ok-row-in-Number.ensures.names c.in_ok-row-in-Number.ensures.found
