pub mod Starting
pub mod OneReport
