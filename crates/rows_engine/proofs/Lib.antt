pub mod Digits
pub mod Walking
