pub mod Fitting
pub mod Hands
pub mod Runs
pub mod Calling
pub mod Taken
pub mod Refusing
