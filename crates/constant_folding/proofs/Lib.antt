mod Unfit
pub mod Kept
pub mod Steps
pub mod Fits
pub mod Monotone
pub mod Typed
pub mod WholeNumbers
pub mod Places
pub mod Turns
pub mod KnownLaws
pub mod Values
pub mod KnownTypes
pub mod Uncircled
pub mod Listed
pub mod Once
pub mod Fitting
pub mod Defined
