-- Lists of tokens that are alike spell the same files and have the same faults.
use Rattle.std.specs.Prelude.{ℕ, List}
use Rattle.bridge_io.specs.declared.reason.Fault.{Fault}
use Rattle.prism_lex.specs.Tokens.{Lexeme}
use Rattle.prism_lex.specs.Alike.{AreAlike}
use Rattle.prism_tree.specs.Syntax.{File}
use Rattle.prism_tree.specs.Faults.{file, file_within, IsGrammarFault}

abbrev pub AlikeFiles : Type 0
AlikeFiles = (end : ℕ) (ts us : List Lexeme) (x : File) → AreAlike ts us → file end ts x → file end us x

-- also within the limit
abbrev pub AlikeFilesWithin : Type 0
AlikeFilesWithin = (end : ℕ) (ts us : List Lexeme) (x : File) → AreAlike ts us → file_within end ts ts x → file_within end us us x

abbrev pub AlikeFaults : Type 0
AlikeFaults = (end : ℕ) (ts us : List Lexeme) (f : Fault) → AreAlike ts us → IsGrammarFault end ts f → IsGrammarFault end us f
