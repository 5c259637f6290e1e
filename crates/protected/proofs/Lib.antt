pub mod Instance
pub mod Bridge
pub mod Leaves
