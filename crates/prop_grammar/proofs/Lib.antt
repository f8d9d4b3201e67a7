pub mod GrammarMoves
pub mod AlikeProperties
