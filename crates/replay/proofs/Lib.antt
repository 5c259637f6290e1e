pub mod Loops
pub mod Found
pub mod Said
pub mod Breaks
