pub mod Finite
pub mod Moves
pub mod Table
