pub mod ImageSeen
pub mod Mapped
