pub mod Views
pub mod Tables
pub mod Sized
pub mod Marks
pub mod Read
pub mod Laws
