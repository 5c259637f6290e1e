pub mod Claims
pub mod Readings
pub mod Later
