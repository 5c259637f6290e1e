pub mod Arguments
pub mod OneElement
pub mod Writing
pub mod Measuring
