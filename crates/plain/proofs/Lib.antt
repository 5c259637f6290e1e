pub mod Bodies
pub mod Runs
pub mod Instance
pub mod Shapes
pub mod Contents
