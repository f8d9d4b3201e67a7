pub mod Moving
pub mod GrammarMoves
pub mod AlikeFiles
