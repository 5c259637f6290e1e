pub mod Apdus
pub mod LeftOver
pub mod Envelopes
pub mod Earlier
pub mod Starts
