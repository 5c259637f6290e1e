pub mod Layout
pub mod Calls
pub mod Rows
