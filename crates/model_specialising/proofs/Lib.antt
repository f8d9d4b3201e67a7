pub mod Places
pub mod PrismTexts
pub mod Fitting
pub mod Ended
pub mod Written
pub mod Once
