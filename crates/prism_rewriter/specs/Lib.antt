pub mod Rewritten
pub mod Filling
pub mod Tables
pub mod Entries
pub mod Renamings
