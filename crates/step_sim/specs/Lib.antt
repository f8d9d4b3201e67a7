pub mod Walks
pub mod Words
pub mod Paths
pub mod Laws
