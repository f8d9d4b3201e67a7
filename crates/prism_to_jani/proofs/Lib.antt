pub mod Kept
pub mod Named
mod Filed
mod Listed
mod Places
mod Statements
mod Counted
mod Labels
mod Lasting
mod Mapped
mod Pairs
