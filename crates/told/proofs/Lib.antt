pub mod Chains
pub mod Single
pub mod Theorems
pub mod Against
pub mod Worked
