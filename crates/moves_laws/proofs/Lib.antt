pub mod Machine
pub mod Steps
pub mod Events
pub mod Failures
pub mod Day
