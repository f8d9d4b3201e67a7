pub mod Generated
pub mod Pieces
pub mod Laws
