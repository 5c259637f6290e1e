pub mod Laws
pub mod Runs
pub mod Apdus
pub mod Alternatives
pub mod Theorems
