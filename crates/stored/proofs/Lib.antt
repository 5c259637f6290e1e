pub mod Storing
pub mod Heads
