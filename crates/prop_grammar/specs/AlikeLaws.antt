-- Lists of tokens that are alike spell the same properties and have the same faults.
use Rattle.std.specs.Prelude.{ℕ, List, map}
use Rattle.bridge_io.specs.declared.reason.Fault.{Fault}
use Rattle.prism_lex.specs.Tokens.{Lexeme}
use Rattle.prism_lex.specs.Alike.{AreAlike}
use Rattle.prop_grammar.specs.Syntax.{WrittenProperty}
use Rattle.prop_grammar.specs.Grammar.{as_name}
use Rattle.prop_grammar.specs.Faults.{file, file_within, IsGrammarFault}

-- They stay alike where quoted names are read as names.
abbrev pub AlikeNames : Type 0
AlikeNames = (ts us : List Lexeme) → AreAlike ts us → AreAlike (map as_name ts) (map as_name us)

abbrev pub AlikeFiles : Type 0
AlikeFiles = (ts us : List Lexeme) (x : List WrittenProperty) → AreAlike ts us → file ts x → file us x

-- also within the limit
abbrev pub AlikeFilesWithin : Type 0
AlikeFilesWithin = (ts us : List Lexeme) (x : List WrittenProperty) → AreAlike ts us → file_within ts ts x → file_within us us x

abbrev pub AlikeFaults : Type 0
AlikeFaults = (end : ℕ) (ts us : List Lexeme) (f : Fault) → AreAlike ts us → IsGrammarFault end ts f → IsGrammarFault end us f
